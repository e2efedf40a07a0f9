-- A CURSOR, and what it tells of what was read: the definition's answer, and the place in the text.
use Rattle.std.specs.Prelude.{◌≡◌, refl, List, ℕ, ◌+◌, ◌<◌}
use Rattle.std.proofs.Common.{sym, ◌∙◌, arith}
use Rattle.tokens.specs.Tokens.{Token}
use Rattle.syntax.specs.Reader.{Out, ok, fault, ◌>>=◌}
use Rattle.tokens.specs.Ahead.{place_at}
use Rattle.lexing.specs.Lexing.{Between, ahead}
use Rattle.parsing.specs.declared.cursor.Cursor.{Cursor}

abbrev pub fault_at : Cursor → ℕ → ℕ → ℕ → Cursor
fault_at c code at d = record { at = at; count = c.count; found = c.found; code = code; detail = d }

abbrev pub behind : Cursor → ℕ → ℕ → ℕ → Cursor
behind c at f d = record { at = at; count = c.count; found = f; code = 0; detail = d }

abbrev pub entered : Cursor → Cursor
entered c = record { at = c.at; count = c.count + 1; found = c.found; code = c.code; detail = c.detail }

-- WHAT A CURSOR TELLS of an outcome: what was read and what is known of it, or the fault
module _ (s : List ℕ) where
  pub data Told {X : Type 0} (Q : X → Cursor → Type 0) : Out X → Cursor → Type 0 where
    on : {x : X} {r : Cursor} → r.code ≡ 0 → Q x r → Told Q (ok x) r
    off : {n left inside d : ℕ} {r : Cursor} → 0 < n → r.code ≡ n → r.at ≡ place_at s left + inside → r.detail ≡ d → Told Q (fault n left inside d) r

  -- behind these tokens of the text stand those
  pub record Behind (ts : List Token) (r : Cursor) : Type 0 where
    pub here : Between s r.at
    pub tokens : ts ≡ ahead s r.at

  -- with a value
  pub record With {A : Type 0} (P : A → Cursor → Type 0) (x : A × List Token) (r : Cursor) : Type 0 where
    pub stands : Behind x.1 r
    pub value : P x.0 r

pub fault_told : {s : List ℕ} {X : Type 0} {Q : X → Cursor → Type 0} (c : Cursor) (code left inside d at : ℕ) → 0 < code → at ≡ place_at s left + inside
    → Told s Q (fault code left inside d) (fault_at c code at d)
fault_told c code left inside d at h e = off h refl e refl

-- a fault is handed on: its number, place and detail
pub record Fault (c r : Cursor) : Type 0 where
  pub code_is : r.code ≡ c.code
  pub at_is : r.at ≡ c.at
  pub detail_is : r.detail ≡ c.detail

pub fault_same : (c : Cursor) → Fault c c
fault_same c = record { code_is = refl; at_is = refl; detail_is = refl }

abbrev pub Carries : Cursor → Cursor → Type 0
Carries c r = (c.code ≡ 0 → ⊥) → Fault c r

pub carries_then : {a b c : Cursor} → Carries a b → Carries b c → Carries a c
carries_then {a} {b} {c} f g h =
    let x = f h in
    let y = g (λ q. h (sym x.code_is ∙ q)) in
    record { code_is = y.code_is ∙ x.code_is; at_is = y.at_is ∙ x.at_is; detail_is = y.detail_is ∙ x.detail_is }

-- ONE STEP of reading, from a cursor to the next
pub record Goes (s : List ℕ) {X : Type 0} (Q : X → Cursor → Type 0) (f : List Token → Out X) (c r : Cursor) : Type 0 where
  pub same : r.count ≡ c.count
  pub carries : Carries c r
  pub told : c.code ≡ 0 → Between s c.at → Told s Q (f (ahead s c.at)) r

-- one behind the other
pub told_then : {s : List ℕ} {X Y : Type 0} {Q : X → Cursor → Type 0} {S : Y → Cursor → Type 0} {o : Out X} {c r : Cursor} (f : X → Out Y)
    → Told s Q o c → Carries c r → ((x : X) → c.code ≡ 0 → Q x c → Told s S (f x) r) → Told s S (o >>= f) r
unfolding ◌>>=◌
told_then f (on {x} e q) k g = g x e q
told_then {s} {S = S} {c = c} {r = r} f (off {n} {left} {inside} {d} h e p t) k g =
    let w = k (λ z. omega arith) in
    off h (w.code_is ∙ e) (w.at_is ∙ p) (w.detail_is ∙ t)
