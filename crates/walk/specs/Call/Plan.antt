-- A plan's bytes at the front of the arena: where its values stand, and what its spans tell.
use Rattle.std.specs.Prelude.{◌≡◌, refl, List, [], ◌∷◌, ◌++◌, map, ℕ, zero, suc, ◌+◌, ◌-◌, ◌*◌, ◌≤◌, ◌<◌, length, get_or, replicate}
use Rattle.std.proofs.Common.{ap, ◌∙◌, arith, length-append}
use Rattle.std.proofs.Math.ListN.{get_or-append}
use Rattle.value.specs.All.{All, none, each}
use Rattle.value.specs.Value.{Value, vfalse, encode, size, flat}
use Rattle.value.proofs.Encoding.{size-encode}
use Rattle.value.specs.Laws.{Readable}
use Rattle.value.specs.Spans.{places, starts}
use Rattle.walk.specs.Arena.Parts.{part, part_split}

-- the value v stands in the arena, and ends at `most`
pub record Standing (a : List ℕ) (start most : ℕ) (v : Value) : Type 0 where
  pub bytes : part a start (size v) ≡ encode v
  pub inside : start + size v ≤ most
  pub readable : Readable v

flat-length : (v : Value) (μ : List Value) → length (encode v ++ flat μ) ≡ size v + length (flat μ)
flat-length v μ = length-append (encode v) (flat μ) ∙ rw size-encode

first_stands : (a : List ℕ) (p : ℕ) (v : Value) (μ : List Value) → part a p (length (encode v ++ flat μ)) ≡ encode v ++ flat μ
    → (part a p (size v) ≡ encode v) × (part a (p + size v) (length (flat μ)) ≡ flat μ)
first_stands a p v μ e = part_split a (encode v) (flat μ) p (size v) (length (flat μ)) (rw (flat-length v μ) at e) (size-encode v)

pub standing : (a : List ℕ) (p : ℕ) {μ : List Value} → All Readable μ → part a p (length (flat μ)) ≡ flat μ → (i : ℕ) → i < length μ
    → Standing a (get_or (starts p μ) i 0) (p + length (flat μ)) (get_or μ i vfalse)
unfolding starts flat
standing a p none e i h = absurd (omega arith)
standing a p (each {a = v} {l = μ} g gs) e zero h =
    let q = first_stands a p v μ e in
    record { bytes = q.0; inside = omega (arith, flat-length v μ); readable = g }
standing a p (each {a = v} {l = μ} g gs) e (suc i) h =
    let q = first_stands a p v μ e in
    let s = standing a (p + size v) gs q.1 i (omega arith) in
    record { bytes = s.bytes; inside = omega (arith, s.inside, flat-length v μ); readable = s.readable }

pub flat_short : {μ : List Value} → All Readable μ → length (flat μ) ≤ 256 * length μ
unfolding flat
flat_short none = omega arith
flat_short (each {a = v} {l = μ} g gs) = omega (arith, length-append (encode v) (flat μ), size-encode v, g.fits, flat_short gs)

pub sizes_at : (μ : List Value) (i : ℕ) → i < length μ → get_or (map size μ) i 0 ≡ size (get_or μ i vfalse)
sizes_at [] i h = absurd (omega arith)
sizes_at (v ∷ μ) zero h = refl
sizes_at (v ∷ μ) (suc i) h = sizes_at μ i (omega arith)

pub sizes_length : (μ : List Value) → length (map size μ) ≡ length μ
sizes_length [] = refl
sizes_length (v ∷ μ) = ap suc (sizes_length μ)

pub placed : (l : List ℕ) (i : ℕ) → i < length l → get_or (places l) i 0 ≡ get_or l i 0
unfolding places
placed l i h = get_or-append l (replicate (16 - length l) 0) 0 i h
