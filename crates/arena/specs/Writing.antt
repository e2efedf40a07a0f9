-- A view for a cell: what is answered, what the arena then holds, and what is then noted of the slots.
use Rattle.std.specs.Prelude.{◌≡◌, refl, List, ℕ, ◌+◌, ◌≤◌, ◌<◌, length, get_or, set, take, drop, eqb}
use Rattle.std.proofs.Math.Path.{sym}
use Rattle.std.proofs.Common.{◌∙◌}
use Rattle.std.proofs.Math.Seq.{paste}
use Rattle.shapes.specs.Parts.{same_bytes}
use Rattle.outcome.specs.Outcome.{done_as, refused_by}
use Rattle.rules.specs.Numbers.{variable_limit, slot_size}
use Rattle.scopes.specs.Scopes.{When, note_of, noted_len, noted_by, slot_of}
use Rattle.decisions.specs.Decisions.{where_so, judged}
use Rattle.scopes.specs.ScopesLaws.{when_in, when_out}
use Rattle.decisions.specs.DecisionLaws.{where_is, where_not}

-- there is such a cell, whose slot is in the arena, such a node, and a value of so many bytes
abbrev pub Takes : (arena : List ℕ) (c node : ℕ) (view : List ℕ) → Type 0
Takes a c x v = (c < variable_limit) × (slot_of c + slot_size ≤ length a) × (x < 255) × (1 ≤ length v) × (length v ≤ slot_size)

-- one thing where nothing was written to the cell, another where something was
abbrev pub unwritten : {A : Type 0} (slots : List ℕ) (c : ℕ) → A → A → A
unwritten slots c x y = where_so (eqb (get_or slots c 0) 0) x y

-- a first view is taken; a second one must equal it, or it is refusal 54, by the node that wrote first
unfoldable pub write_answer : (arena slots : List ℕ) (c : ℕ) (view : List ℕ) → ℕ
write_answer a slots c v =
    let note = get_or slots c 0 in
    unwritten slots c (done_as 0 0 0) (judged (refused_by 54 (noted_by note)) (same_bytes (take (noted_len note) (drop (slot_of c) a)) v))

-- the slot has the first view
unfoldable pub written_bytes : (arena slots : List ℕ) (c : ℕ) (view : List ℕ) → List ℕ
written_bytes a slots c v = unwritten slots c (paste a (slot_of c) v (length v)) a

-- and is noted to have it of that node
unfoldable pub written_notes : (slots : List ℕ) (c node : ℕ) (view : List ℕ) → List ℕ
written_notes slots c x v = unwritten slots c (set slots c (note_of x (length v))) slots

-- all three of them: the answer r, the arena a' and the notes slots'
abbrev pub Writes : (a slots : List ℕ) (c x : ℕ) (v : List ℕ) (r : ℕ) (a' slots' : List ℕ) → Type 0
Writes a slots c x v r a' slots' =
    When (Takes a c x v) r (write_answer a slots c v) 42
    × (When (Takes a c x v) a' (written_bytes a slots c v) a × When (Takes a c x v) slots' (written_notes slots c x v) slots)

module _ (a slots : List ℕ) (c x : ℕ) (v : List ℕ) where
  pub not_taken : {r : ℕ} → (Takes a c x v → ⊥) → r ≡ 42 → Writes a slots c x v r a slots
  not_taken n e = (when_out n e, (when_out n refl, when_out n refl))

  pub taken_first : {r : ℕ} {a' slots' : List ℕ} → Takes a c x v → get_or slots c 0 ≡ 0 → r ≡ done_as 0 0 0 → a' ≡ paste a (slot_of c) v (length v)
      → slots' ≡ set slots c (note_of x (length v)) → Writes a slots c x v r a' slots'
  unfolding write_answer written_bytes written_notes
  taken_first p z e f g = (when_in p (e ∙ sym (where_is _ _ z)), (when_in p (f ∙ sym (where_is _ _ z)), when_in p (g ∙ sym (where_is _ _ z))))

  pub taken_again : {r : ℕ} → Takes a c x v → (get_or slots c 0 ≡ 0 → ⊥)
      → r ≡ judged (refused_by 54 (noted_by (get_or slots c 0))) (same_bytes (take (noted_len (get_or slots c 0)) (drop (slot_of c) a)) v)
      → Writes a slots c x v r a slots
  unfolding write_answer written_bytes written_notes
  taken_again p n e = (when_in p (e ∙ sym (where_not _ _ n)), (when_in p (sym (where_not _ _ n)), when_in p (sym (where_not _ _ n))))

  -- what a caller knows of it
  pub first_wrote : {r : ℕ} {a' slots' : List ℕ} → Takes a c x v → get_or slots c 0 ≡ 0 → Writes a slots c x v r a' slots'
      → (r ≡ done_as 0 0 0) × (a' ≡ paste a (slot_of c) v (length v)) × (slots' ≡ set slots c (note_of x (length v)))
  unfolding write_answer written_bytes written_notes
  first_wrote p z w = (w.0.inside p ∙ where_is _ _ z, w.1.0.inside p ∙ where_is _ _ z, w.1.1.inside p ∙ where_is _ _ z)

  pub again_wrote : {r : ℕ} {a' slots' : List ℕ} → Takes a c x v → (get_or slots c 0 ≡ 0 → ⊥) → Writes a slots c x v r a' slots'
      → (a' ≡ a) × (slots' ≡ slots)
      × (r ≡ judged (refused_by 54 (noted_by (get_or slots c 0))) (same_bytes (take (noted_len (get_or slots c 0)) (drop (slot_of c) a)) v))
  unfolding write_answer written_bytes written_notes
  again_wrote p n w = (w.1.0.inside p ∙ where_not _ _ n, w.1.1.inside p ∙ where_not _ _ n, w.0.inside p ∙ where_not _ _ n)
