-- TWO READINGS of one text, with other numbers for its sections, find the same nodes but for these numbers: as many, and as many sections.
use Rattle.std.specs.Prelude.{◌≡◌, Bool, cond, leb, eqb}
use Rattle.std.proofs.Math.Path.{refl}
use Rattle.std.proofs.Math.Bool.{true, false}
use Rattle.std.proofs.Math.Option.{Option, none, some}
use mathlib.Core.List.{List, [], ◌∷◌, ◌++◌}
use Prim.Native.Nat.{ℕ, zero, suc, ◌+◌}
use Rattle.std.proofs.Math.ListN.{length}
use Rattle.node.specs.declared.Node.{Node}
use Rattle.tokens.specs.Quoted.{bytes}
use Rattle.tokens.specs.Tokens.{Token, first, rest, word_of, mark_of, same}
use Rattle.syntax.specs.Reader.{Out, ok, fault, ◌>>=◌, Name, Scope, known, Begin, nothing, a_false, a_true, a_let, a_case, an_each, a_pair}
use Rattle.syntax.specs.Reader.{a_list, a_name, a_hash, a_number, begin_of}
use Rattle.syntax.specs.Reader.{whole, more, Reader, room, begun}
use Rattle.syntax.specs.Reader.{amount_of, call_of, each_of, named, shaped, parted}
use Rattle.syntax.specs.Reader.{read, Sections, section, sections, text_of_tokens}
use Rattle.syntax.specs.Alike.{Alike, both, left, right, alike, alike_same, As, nil, one, as_long, app, Like, like, alike_read, like_self, Same}
use Rattle.syntax.specs.Alike.{alike_pair, alike_front, alike_list, alike_let, alike_amount, alike_case}

alike_known : (o o' : Option ℕ) (l d : ℕ) → Alike (λ c c'. Unit {0}) (known o l d) (known o' l d)
unfolding known
alike_known none o' l d = left
alike_known (some x) none l d = right
alike_known (some x) (some y) l d = both tt

alike_room : {A : Type 0} {R : A → A → Type 0} (n : ℕ) (ts : List Token) (f g : Unit {0} → Out A) → Alike R (f tt) (g tt) → Alike R (room n ts f) (room n ts g)
unfolding room
alike_room {A} {R} n ts f g h = go (eqb n 200)
  where
    go : (b : Bool) → Alike R (cond b (λ (u : Unit {0}). fault 94 (length ts) 0 72) f tt) (cond b (λ (u : Unit {0}). fault 94 (length ts) 0 72) g tt)
    go true = left
    go false = h

alike_cond : {A : Type 0} {R : A → A → Type 0} (b : Bool) {x y x' y' : Out A} → Alike R x x' → Alike R y y' → Alike R (cond b x y) (cond b x' y')
alike_cond true p q = p
alike_cond false p q = q

module _ (r r' : Name → Option ℕ) where
  alike_call : (w : Name) (l : ℕ) (sc : Scope) (ts : List Token) → Alike Like (call_of r w l sc ts) (call_of r' w l sc ts)
  unfolding call_of
  alike_call w l sc ts =
      alike _ _ (alike_known (r w) (r' w) l 43) λ c d u.
      alike_same _ _ _ λ x.
      alike_same _ _ _ λ ts₂.
      alike_same _ _ _ λ y.
      alike_same _ _ _ λ ts₄.
      both (like (one nil))

  alike_named : (w : Name) (sc : Scope) (ts : List Token) → Alike Like (named r w sc ts) (named r' w sc ts)
  unfolding named
  alike_named w sc ts = alike_cond (same (mark_of (first (rest ts))) (bytes "(")) (alike_call w (length ts) sc (rest (rest ts))) (like_self _)

  alike_each : (rd rd' : Reader) → Same rd rd' → (sc : Scope) (n : ℕ) (ts : List Token) → Alike Like (each_of r rd sc n ts) (each_of r' rd' sc n ts)
  unfolding each_of
  alike_each rd rd' s sc n ts =
      alike_same _ _ _ λ w.
      alike _ _ (alike_known (r w.0) (r' w.0) (length ts) 43) λ c d u.
      alike_same _ _ _ λ ts₂.
      alike_read _ _ (s whole sc (suc n) ts₂) λ a b ts₃ l. rw (as_long l) (
      alike_same _ _ _ λ ts₄.
      alike_same _ _ _ λ x.
      alike_same _ _ _ λ ts₆.
      alike_same _ _ _ λ ts₇.
      alike_read _ _ (s whole _ (suc n + length b) ts₇) λ e f ts₈ l'.
      both (like (one (app l (app l' nil)))))

  alike_shaped : (rd rd' : Reader) → Same rd rd' → (sc : Scope) (n : ℕ) (ts : List Token) (b : Begin)
      → Alike Like (shaped r rd sc n ts b) (shaped r' rd' sc n ts b)
  unfolding shaped amount_of
  alike_shaped rd rd' s sc n ts nothing = left
  alike_shaped rd rd' s sc n ts a_false = both (like (one nil))
  alike_shaped rd rd' s sc n ts a_true = both (like (one nil))
  alike_shaped rd rd' s sc n ts a_let = alike_let rd rd' s sc n (rest ts)
  alike_shaped rd rd' s sc n ts a_case = alike_case rd rd' s sc n (rest ts)
  alike_shaped rd rd' s sc n ts an_each = alike_each rd rd' s sc n (rest ts)
  alike_shaped rd rd' s sc n ts a_pair = alike_pair rd rd' s sc n (rest ts)
  alike_shaped rd rd' s sc n ts a_list = alike_list rd rd' s sc n (rest ts)
  alike_shaped rd rd' s sc n ts (a_name w) = alike_named w sc ts
  alike_shaped rd rd' s sc n ts (a_hash ds b) = like_self _
  alike_shaped rd rd' s sc n ts (a_number ds b) =
      alike_same _ _ _ λ v. alike_amount rd rd' s sc n (same (mark_of (first (rest ts))) (bytes "+")) (leb v 65535) (rest ts) v

  alike_begun : (n : ℕ) (ts : List Token) (b : Begin) (f g : Begin → Out (List Node × List Token)) → Alike Like (f b) (g b)
      → Alike Like (begun n ts b f) (begun n ts b g)
  unfolding begun
  alike_begun n ts nothing f g h = left
  alike_begun n ts a_false f g h = alike_room n ts _ _ h
  alike_begun n ts a_true f g h = alike_room n ts _ _ h
  alike_begun n ts a_let f g h = alike_room n ts _ _ h
  alike_begun n ts a_case f g h = alike_room n ts _ _ h
  alike_begun n ts an_each f g h = alike_room n ts _ _ h
  alike_begun n ts a_pair f g h = alike_room n ts _ _ h
  alike_begun n ts a_list f g h = alike_room n ts _ _ h
  alike_begun n ts (a_name w) f g h = alike_room n ts _ _ h
  alike_begun n ts (a_hash ds b) f g h = alike_room n ts _ _ h
  alike_begun n ts (a_number ds b) f g h = alike_room n ts _ _ h

  alike_parted : (rd rd' : Reader) → Same rd rd' → Same (parted r rd) (parted r' rd')
  unfolding parted
  alike_parted rd rd' s whole sc n ts = alike_begun n ts (begin_of (first ts)) _ _ (alike_shaped rd rd' s sc n ts (begin_of (first ts)))
  alike_parted rd rd' s more sc n ts = alike_room n ts _ _ (alike_front rd rd' s sc n (rest ts))

  read_alike : (f : ℕ) → Same (read r f) (read r' f)
  unfolding read
  read_alike zero = alike_parted _ _ (λ p sc n ts. left)
  read_alike (suc f) = alike_parted (read r f) (read r' f) (read_alike f)

  -- THE WHOLE TEXT

  data Section : (x y : (Name × List Node) × List Token) → Type 0 where
    alike_nodes : {w : Name} {a b : List Node} {ts : List Token} → As a b → Section ((w, a), ts) ((w, b), ts)

  section_alike : (ns : List Name) (n : ℕ) (ts : List Token) → Alike Section (section r ns n ts) (section r' ns n ts)
  unfolding section
  section_alike ns n ts =
      alike_same _ _ _ λ w.
      alike_same _ _ _ λ v.
      alike_same _ _ _ λ ts₂.
      alike_same _ _ _ λ x.
      alike_same _ _ _ λ ts₄.
      alike_same _ _ _ λ y.
      alike_same _ _ _ λ ts₆.
      alike_same _ _ _ λ ts₇.
      alike_read _ _ (read_alike 200 whole _ n ts₇) λ a b ts₈ l.
      both (alike_nodes l)

  abbrev Count : (x y : Sections) → Type 0
  Count x y = length x.names ≡ length y.names

  sections_alike : (k : ℕ) (ns : List Name) (n : ℕ) (ts : List Token) → Alike Count (sections r k ns n ts) (sections r' k ns n ts)
  unfolding sections
  sections_alike zero ns n [] = both refl
  sections_alike zero ns n (t ∷ ts) = alike_cond (same (word_of t) (bytes "section")) left left
  sections_alike (suc k) ns n [] = both refl
  sections_alike (suc k) ns n (t ∷ ts) =
      alike_same _ _ _ λ ts₁.
      alike _ _ (section_alike ns n ts₁) (λ x y l. go (λ ms m us. sections_alike k ms m us) x y l)
    where
      go : ((ms : List Name) (m : ℕ) (us : List Token) → Alike Count (sections r k ms m us) (sections r' k ms m us))
          → (x y : (Name × List Node) × List Token) → Section x y
          → Alike Count
          (sections r k (x.0.0 ∷ ns) (n + length x.0.1) x.1 >>= λ q. ok
          (record { names = q.names; roots = n ∷ q.roots; nodes = x.0.1 ++ q.nodes }))
          (sections r' k (y.0.0 ∷ ns) (n + length y.0.1) y.1 >>= λ q. ok
          (record { names = q.names; roots = n ∷ q.roots; nodes = y.0.1 ++ q.nodes }))
      go ih x y (alike_nodes {w} {a} {b} {ts = us} l) = rw (as_long l) (alike _ _ (ih (w ∷ ns) (n + length b) us) λ p q e. both e)

  pub text_alike : (ts : List Token) → Alike (λ x y. length x.0 ≡ length y.0) (text_of_tokens r ts) (text_of_tokens r' ts)
  unfolding text_of_tokens
  text_alike ts =
      alike_same _ _ _ λ ts₁.
      alike_same _ _ _ λ p.
      alike_same _ _ _ λ ts₃.
      alike_same _ _ _ λ ts₄.
      alike_read _ _ (read_alike 200 whole _ 0 ts₄) λ a b ts₅ l. rw (as_long l) (
      alike _ _ (sections_alike 8 [] (length b) ts₅) λ x y e.
      both e)
