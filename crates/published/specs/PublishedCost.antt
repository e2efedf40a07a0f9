-- What a derivation of the published relations costs: its height, its nodes, and the longest value that it builds.
use Rattle.std.specs.Prelude.{List, [], ◌∷◌, ℕ, ◌+◌, max}
use Rattle.value.specs.Value.{Value, Values, list, pair, cons, size}
use Rattle.sheet.specs.Sheet.{Sheet}
use Rattle.rules.specs.Counting.{Env}
use Rattle.rules.specs.Laws.Related.{All2, ends, more}
use Rattle.published.specs.Published.{Writes, Expr, residual, Get, g_var, g_const, g_cons, g_case, g_let, g_pair, g_call, g_add, g_each, g_end, g_next}
use Rattle.published.specs.Published.{Put, p_var, p_const, p_cons, p_case, p_case_switch, p_let, p_pair, p_call, p_add, p_each, p_end, p_next}
use Rattle.published.specs.Published.{StoodFor, s_old, s_new}

-- levels; uses of a rule, each as often as it stands in the derivation; bytes
pub record Cost : Type 0 where
  pub height : ℕ
  pub nodes : ℕ
  pub longest : ℕ

-- no rule is used and nothing is built
abbrev pub free : Cost
free = record { height = 0; nodes = 0; longest = 0 }

-- a value is built: what a front, a pair or an each gives, and a subject that a put rebuilds
abbrev pub built : Value → Cost
built v = record { height = 0; nodes = 0; longest = size v }

-- side by side
infixr 30 ◌⊕◌
abbrev pub ◌⊕◌ : Cost → Cost → Cost
c ⊕ d = record { height = max c.height d.height; nodes = c.nodes + d.nodes; longest = max c.longest d.longest }

-- one rule more, below which the rest stands
abbrev pub entered : Cost → Cost
entered c = record { height = 1 + c.height; nodes = 1 + c.nodes; longest = c.longest }

module _ {sh : Sheet} where
  -- GET

  -- what the premises of the last rule cost
  unfoldable pub get_below : {μ : Env} {e : Expr} {v : Value} → Get sh μ e v → Cost
  get_below (g_var e) = free
  get_below g_const = free
  get_below (g_cons {f = f} {r = r} d d') = entered (get_below d) ⊕ entered (get_below d') ⊕ built (list (cons f r))
  get_below (g_case i d₀ m d p) = entered (get_below d₀) ⊕ entered (get_below d)
  get_below (g_let d₀ m d) = entered (get_below d₀) ⊕ entered (get_below d)
  get_below (g_pair {u = u} {v = v} d d') = entered (get_below d) ⊕ entered (get_below d') ⊕ built (pair u v)
  get_below (g_call ea eb d) = entered (get_below d)
  get_below (g_add d q) = entered (get_below d)
  get_below (g_each {ws = ws} d e ds) = entered (get_below d) ⊕ get_below ds ⊕ built (list ws)
  get_below g_end = free
  get_below (g_next d ds) = entered (get_below d) ⊕ get_below ds

  abbrev pub get_cost : {μ : Env} {e : Expr} {v : Value} → Get sh μ e v → Cost
  get_cost d = entered (get_below d)

  -- PUT. The gets that a put takes, of the old subject and of the defaults, count with it

  -- what the defaults cost, and c beside them
  unfoldable pub defaults_cost : {v : Value} {ns : List ℕ} {μ : Env} → All2 (λ n w. Get sh (v ∷ []) (residual sh n) w) ns μ → Cost → Cost
  defaults_cost ends c = c
  defaults_cost (more d ds) c = get_cost d ⊕ defaults_cost ds c

  unfoldable pub stood_cost : {d : ℕ} {old : Values} {m : Value} → StoodFor sh d old m → Cost
  stood_cost s_old = free
  stood_cost (s_new d) = get_cost d

  unfoldable pub put_below : {μ : Env} {v : Value} {e : Expr} {ω : Writes} → Put sh μ v e ω → Cost
  put_below (p_var e) = free
  put_below p_const = free
  put_below (p_cons d d' m) = entered (put_below d) ⊕ entered (put_below d')
  put_below (p_case {u = u} i g m h d o oᵢ r d₀ mg) = get_cost g ⊕ entered (put_below d) ⊕ built u ⊕ entered (put_below d₀)
  put_below (p_case_switch {u = u} i g m h k gs n d o oⱼ r d₀ mg) = get_cost g ⊕ defaults_cost gs (entered (put_below d) ⊕ built u ⊕ entered (put_below d₀))
  put_below (p_let {u = u} g m d o oᵢ r d₀ mg) = get_cost g ⊕ entered (put_below d) ⊕ built u ⊕ entered (put_below d₀)
  put_below (p_pair d d' m) = entered (put_below d) ⊕ entered (put_below d')
  put_below (p_call ea eb d m) = entered (put_below d)
  put_below (p_add z low d) = entered (put_below d)
  put_below (p_each {us = us} g e ds d₀ mg) = get_cost g ⊕ (put_below ds ⊕ built (list us)) ⊕ entered (put_below d₀)
  put_below p_end = free
  put_below (p_next s d ds mg) = stood_cost s ⊕ entered (put_below d) ⊕ put_below ds

  abbrev pub put_cost : {μ : Env} {v : Value} {e : Expr} {ω : Writes} → Put sh μ v e ω → Cost
  put_cost d = entered (put_below d)
