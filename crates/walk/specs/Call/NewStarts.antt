-- What a put gives beside the walk's answer: where the values of its new plan start.
use Rattle.std.specs.Prelude.{◌≡◌, List, ◌++◌, ℕ, ◌≤◌, length, Ok, Err}
use Rattle.std.proofs.Common.{sym, arith}
use Rattle.std.proofs.Math.Path.{ap}
use Rattle.starts.specs.declared.Starts.{Starts}
use Rattle.starts.specs.Starts.{no_starts, load_of, starts_in}
use Rattle.rules.specs.Numbers.{scratch_size, stack_start, put_output}
use Rattle.rules.specs.Outcome.{Out}
use Rattle.refusal.specs.declared.Refusal.{Refusal}
use Rattle.walk.specs.declared.PutWalked.{PutWalked}
use Rattle.walk.specs.declared.chain.Met.{Met}
use Rattle.walk.specs.Reply.{Reply}
use Rattle.walk.specs.Arena.Parts.{part}
use Rattle.walk.specs.Call.{Says, says_done, says_refused, front_part}

-- the starts that loading the new plan gives, which stands in the arena a at 32,256; no start with a refusal
unfoldable pub new_starts : (sheet a : List ℕ) → Reply → Starts
new_starts sheet a (Ok d) = starts_in (load_of sheet (part a stack_start d.len))
new_starts sheet a (Err c) = no_starts

-- a put that is refused gives no start and no bit
unfoldable pub refused_put : Refusal → Met → PutWalked
refused_put c m = record { walked = Err c; starts = no_starts; written = 0; met = m }

-- a refusal
module _ {r : PutWalked} (c : Refusal) (m : Met) (e : r ≡ refused_put c m) where
  pub walked_is : r.walked ≡ Err c
  unfolding refused_put
  walked_is = ap (λ (p : PutWalked). p.walked) e

  pub met_is : r.met ≡ m
  unfolding refused_put
  met_is = ap (λ (p : PutWalked). p.met) e

  pub none_with : (sheet a : List ℕ) → r.starts ≡ new_starts sheet a r.walked
  unfolding refused_put new_starts
  none_with sheet a = rw e

-- what stands in the front of the arena stands in the whole
pub starts_whole : (sheet x : List ℕ) {most : ℕ} {a : List ℕ} {r : Reply} {o : Out (List ℕ)} → most ≤ put_output → length a ≡ scratch_size → Says most a r o
    → new_starts sheet a r ≡ new_starts sheet (a ++ x) r
unfolding new_starts
starts_whole sheet x {a = a} t l (says_done len e q h p) =
    rw e (ap (λ (b : List ℕ). starts_in (load_of sheet b)) (sym (front_part a x len l (omega arith))))
starts_whole sheet x t l (says_refused e c) = rw e
