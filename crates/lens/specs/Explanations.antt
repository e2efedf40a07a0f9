-- Why a call is refused, for other languages: one number, and the chain's nodes in the bytes that the caller lends.
use Rattle.std.specs.Prelude.{◌≡◌, refl, List, ◌++◌, ℕ, min, length, drop}
use Rattle.std.proofs.Common.{ap, ◌∙◌, arith}
use Rattle.rules.specs.Numbers.{chain_limit}
use Rattle.rules.specs.Explain.Calls.{Explanation, success, before, walked, why_get, why_put}
use Rattle.explaining.specs.Explain.{WhyReply, unmet, told_as, why_cleared, WhyAnswered}
use Rattle.explaining.specs.Explain.Calls.{nodes_long}
use Rattle.explaining.specs.Explain.Laws.{Proper, firsts_back, why_few, why_get_proper, why_put_proper}
use Rattle.packing.specs.Numbers.{WhyPacked}
use Rattle.packing.specs.HandedOut.{handed}

-- the caller's bytes: the chain at their front, and those behind it as they were; where there is no chain, all as they were
unfoldable pub chain_over : Explanation → List ℕ → List ℕ
chain_over success c = c
chain_over (before n) c = c
chain_over (walked y) c = y.chain ++ drop (length y.chain) c

-- the call's explanation is e: the number r says so, the caller's bytes c became c', and scratch s became s'
pub record WhyHanded (e : Explanation) (r : ℕ) (s s' c c' : List ℕ) : Type 0 where
  pub answer : let w = told_as e in WhyPacked w.refusal w.depth w.first r
  pub chain : c' ≡ chain_over e c
  pub scratch : s' ≡ why_cleared e s

-- WHAT SHOWS IT

-- as many nodes as the depth says, where there is room
abbrev pub nodes_over : WhyReply → List ℕ → List ℕ
nodes_over w c = handed (min w.depth (min (length w.chain) (length c))) w.chain c

-- an explanation handed out
abbrev pub WhyHandedOut : WhyReply → (r : ℕ) → (c c' : List ℕ) → Type 0
WhyHandedOut w r c c' = WhyPacked w.refusal w.depth w.first r × (c' ≡ nodes_over w c)

-- no node
pub nodes_none : (w : WhyReply) → w.depth ≡ 0 → (c : List ℕ) → c ≡ nodes_over w c
unfolding handed
nodes_none w e c = let m : min w.depth (min (length w.chain) (length c)) ≡ 0 = omega (arith, e) in rw m refl

told_over : (e : Explanation) → Proper e → (c : List ℕ) → handed (told_as e).depth (told_as e).chain c ≡ chain_over e c
unfolding told_as unmet chain_over handed
told_over success p c = refl
told_over (before n) p c = refl
told_over (walked y) p c = ap (λ (l : List ℕ). l ++ drop (length y.chain) c) (firsts_back chain_limit y.chain p.1.1)

why_handed : {e : Explanation} {w : WhyReply} {s s' : List ℕ} → Proper e → WhyAnswered e w s s' → {c : List ℕ} → length c ≡ chain_limit → {c' : List ℕ} {r : ℕ}
    → WhyPacked w.refusal w.depth w.first r × (c' ≡ nodes_over w c) → WhyHanded e r s s' c c'
why_handed {e} {w} p h {c} l (q, n) =
    let m : min w.depth (min (length w.chain) (length c)) ≡ w.depth = omega (arith, why_few p h, nodes_long h) in
    record {
      answer = rw h.answer at q;
      chain = n ∙ rw m (ap (λ (v : WhyReply). handed v.depth v.chain c) h.answer ∙ told_over e p c);
      scratch = h.scratch;
    }

module _ (sheet plan : List ℕ) (a k : ℕ) {w : WhyReply} {s s' c : List ℕ} (l : length c ≡ chain_limit) {c' : List ℕ} {r : ℕ}
    (n : WhyPacked w.refusal w.depth w.first r × (c' ≡ nodes_over w c)) where
  pub get_handed : WhyAnswered (why_get sheet plan a k) w s s' → WhyHanded (why_get sheet plan a k) r s s' c c'
  get_handed h = why_handed (why_get_proper sheet plan a k) h l n

  pub put_handed : (view : List ℕ) → WhyAnswered (why_put sheet plan view a k) w s s' → WhyHanded (why_put sheet plan view a k) r s s' c c'
  put_handed view h = why_handed (why_put_proper sheet plan view a k) h l n
