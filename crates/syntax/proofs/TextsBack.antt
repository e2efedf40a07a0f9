-- THE OTHER LAW: a text that is read says a sheet in range, which request 12 gives back unchanged.
use Rattle.std.specs.Prelude.{◌≡◌, refl, List, [], ◌∷◌, ℕ, ◌≤◌, length}
use Rattle.std.proofs.Common.{sym, ap, ◌∙◌, subst}
use Rattle.std.proofs.Math.Option.{some}
use native.Mathlib.Omega.{arith}
use Rattle.sheet.specs.Sheet.{Sheet}
use Rattle.sheet.proofs.Written.{Bytes}
use Rattle.preorder.specs.NumberAnswer.{done, number_answer}
use Rattle.tokens.specs.Tokens.{Token, between, tokens}
use Rattle.syntax.specs.Reader.{Out, fault, ◌>>=◌, Name, find, text_of_tokens, sheet_of_tokens, Said, says, refused, placed, sheet_of}
use Rattle.syntax.specs.Reader.{ok as read}
use Rattle.syntax.specs.Trees.{Trees}
use Rattle.syntax.specs.Sound.{After, fine, bad, after_ok, find_below}
use Rattle.syntax.proofs.Sound.{text_sound}
use Rattle.syntax.specs.Alike.{Alike, both, left, right}
use Rattle.syntax.proofs.Alike.{text_alike}
use Rattle.syntax.specs.Texts.{printed_bytes}
use Rattle.syntax.proofs.Texts.{round_trip}
use Rattle.syntax.specs.TextsBack.{Met, met_bytes, met_numbered, Read}

alike_both : {A : Type 0} {R : A → A → Type 0} {o o' : Out A} {a b : A} → Alike R o o' → o ≡ read a → o' ≡ read b → R a b
alike_both {A} {R} {b = b} (both {a = x} {b = y} r) e e' = subst (λ (z : A). R z b) (got x e) (subst (λ (z : A). R x z) (got y e') r)
  where
    of : A → Out A → A
    of d (read z) = z
    of d (fault c l i d') = d

    got : (x : A) {y z : A} → read y ≡ read z → y ≡ z
    got x p = ap (of x) p
alike_both {A} left e e' = absurd (tag e)
  where
    tag_of : Out A → ℕ
    tag_of (read z) = 0
    tag_of (fault c l i d) = 1

    tag : {c l i d : ℕ} {x : A} → fault c l i d ≡ read x → ⊥
    tag p = let z = ap tag_of p in omega arith
alike_both {A} right e e' = absurd (tag e')
  where
    tag_of : Out A → ℕ
    tag_of (read z) = 0
    tag_of (fault c l i d) = 1

    tag : {c l i d : ℕ} {x : A} → fault c l i d ≡ read x → ⊥
    tag p = let z = ap tag_of p in omega arith

pub sheet_met : (ts : List Token) → After Met (sheet_of_tokens ts)
unfolding sheet_of_tokens ◌>>=◌
sheet_met ts = go (text_of_tokens (λ w. some 0) ts) refl
  where
    second : (x : List Name × Sheet) → text_of_tokens (λ w. some 0) ts ≡ read x → (o : Out (List Name × Sheet)) → text_of_tokens (find x.0) ts ≡ o
        → After Met (o >>= λ (n, sh). read sh)
    second x e (read y) q =
        let w = after_ok (text_sound (length x.0) (find x.0) (λ v c h. find_below x.0 v h) ts) q in
        let l : length x.0 ≡ length y.0 = alike_both (text_alike (λ v. some 0) (find x.0) ts) e q in
        let z : length x.0 ≡ length y.1.sections = l ∙ w.names in
        fine record {
          trees = subst (λ (s : ℕ). Trees s 0 (0 ∷ y.1.sections) y.1.nodes) z w.trees;
          root = w.root;
          k = w.k;
          few_nodes = w.few_nodes;
          few_sections = w.few_sections;
        }
    second x e (fault c l i d) q = bad

    go : (o : Out (List Name × Sheet)) → text_of_tokens (λ w. some 0) ts ≡ o → After Met (o >>= λ (n, sh). text_of_tokens (find n) ts >>= λ (n', sh'). read sh')
    go (read x) e = second x e (text_of_tokens (find x.0) ts) refl
    go (fault c l i d) e = bad

pub read_met : (t : List ℕ) {b : List ℕ} → sheet_of t ≡ says b → Read b
unfolding sheet_of placed
read_met t {b} e = go (sheet_of_tokens (tokens between t)) refl e
  where
    said : List ℕ → Said → List ℕ
    said d (says x) = x
    said d (refused c p i) = d

    tag_of : Said → ℕ
    tag_of (says x) = 0
    tag_of (refused c p i) = 1

    go : (o : Out Sheet) → sheet_of_tokens (tokens between t) ≡ o → placed t o ≡ says b → Read b
    go (read sh) q e = record { sheet = sh; met = after_ok (sheet_met (tokens between t)) q; written = sym (ap (said []) e) }
    go (fault c l i d) q e = let z = ap tag_of e in absurd (omega arith)

-- what is read are bytes, which request 12's writer takes and gives back unchanged
pub read_bytes : (t : List ℕ) {b : List ℕ} → sheet_of t ≡ says b → Bytes b
read_bytes t e = let r = read_met t e in rw r.written (met_bytes r.met)

pub read_numbered : (t : List ℕ) (n : ℕ) {b : List ℕ} → 2048 ≤ n → sheet_of t ≡ says b → number_answer b n ≡ done b
read_numbered t n room e = let r = read_met t e in rw r.written (met_numbered r.met n room)

-- so a text that is read, printed and read again, says the same
pub read_again : (t : List ℕ) {b : List ℕ} → sheet_of t ≡ says b → (x : List ℕ) × (printed_bytes b ≡ done x) × (sheet_of x ≡ says b)
read_again t {b} e = round_trip b 2048 (read_bytes t e) (read_numbered t 2048 (omega arith) e)
