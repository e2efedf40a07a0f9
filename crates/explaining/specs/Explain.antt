-- Why a call is refused (document 02, request 9), as the code has it, and what its scratch then holds.
pub mod Calls
pub mod Laws
use Rattle.std.specs.Prelude.{◌≡◌, List, [], ℕ, suc, leb, length}
use Rattle.std.proofs.Math.Option.{Option, none, some}
use Rattle.rules.specs.Explain.Calls.{Explanation, success, before, walked}
use Rattle.starts.specs.Starts.{firsts}
use Rattle.rules.specs.Numbers.{chain_limit}
use Rattle.std.specs.Prelude.{Option as Answer, Some, None}
use Rattle.refusal.specs.Refusal.{number_of}
use Rattle.explaining.specs.declared.Why.{Why}
use Rattle.buffers.specs.Buffers.{zeroed}
use Rattle.calls.specs.Calls.{after_refusal}

-- an explanation in numbers: the refusal, 0 for a success; how many nodes its chain has; the chain's nodes, with zeros behind them; and one more than
-- the node that wrote first, 0 where there is none
pub record WhyReply : Type 0 where
  pub refusal : ℕ
  pub depth : ℕ
  pub chain : List ℕ
  pub first : ℕ

-- no node: a success (0), or a refusal from before the walk
unfoldable pub unmet : ℕ → WhyReply
unmet c = record { refusal = c; depth = 0; chain = firsts chain_limit []; first = 0 }

-- one more than the node that wrote first; 0 where there is none
unfoldable pub first_number : Option ℕ → ℕ
first_number none = 0
first_number (some n) = suc n

-- the chain with zeros behind it, 49 numbers in all
unfoldable pub told_as : Explanation → WhyReply
told_as success = unmet 0
told_as (before c) = unmet c
told_as (walked y) = record { refusal = y.code; depth = length y.chain; chain = firsts chain_limit y.chain; first = first_number y.first }

-- what the code answers
unfoldable pub why_reply : Answer Why → WhyReply
why_reply None = unmet 0
why_reply (Some w) = record { refusal = number_of w.refusal; depth = w.depth; chain = w.chain; first = w.first }

-- refusals 2 and 3 do not touch scratch; every other ending zeroes its first 65,536 bytes and touches no others
unfoldable pub why_cleared : Explanation → List ℕ → List ℕ
why_cleared success s = zeroed s
why_cleared (before c) s = after_refusal (leb c 3) s
why_cleared (walked y) s = zeroed s

-- the call's explanation is e: r says so, and scratch s became s'
pub record WhyAnswered (e : Explanation) (r : WhyReply) (s s' : List ℕ) : Type 0 where
  pub answer : r ≡ told_as e
  pub scratch : s' ≡ why_cleared e s
