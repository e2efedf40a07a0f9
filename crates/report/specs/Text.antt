-- What is printed: numbers in decimal, bytes in upper-case hexadecimal, and the line of an answer (document 01, "The program").
use Rattle.std.specs.Prelude.{cond, List, [], ◌∷◌, ◌++◌, ℕ, zero, suc, ◌+◌, ◌/◌, ◌%◌, ltb}

-- the character of a digit below 16: `0` to `9`, then `A` to `F`
unfoldable pub digit_of : ℕ → ℕ
digit_of d = cond (ltb d 10) (48 + d) (55 + d)

-- a byte is two digits, the high one first
unfoldable pub hex_of : List ℕ → List ℕ
hex_of [] = []
hex_of (b ∷ bs) = digit_of (b / 16) ∷ digit_of (b % 16) ∷ hex_of bs

-- a number below 10 is its digit; any other is what stands before its last digit, and that digit. Each turn shortens the number, so
-- that more turns than the number are never needed (`decimal_small`, `decimal_more`)
unfoldable pub decimal_in : (turns n : ℕ) → List ℕ
decimal_in zero n = []
decimal_in (suc turns) n = cond (ltb n 10) (digit_of n ∷ []) (decimal_in turns (n / 10) ++ (digit_of (n % 10) ∷ []))

unfoldable pub decimal_of : ℕ → List ℕ
decimal_of n = decimal_in (suc n) n

-- words, each behind a space
unfoldable pub words : List (List ℕ) → List ℕ
words [] = []
words (w ∷ ws) = 0x20 ∷ (w ++ words ws)

-- `no`, the refusal's number, line feed
unfoldable pub refusal_line : ℕ → List ℕ
refusal_line code = 0x6E ∷ 0x6F ∷ (words (decimal_of code ∷ []) ++ (0x0A ∷ []))

-- `ok`, the words of what is answered, line feed
unfoldable pub ok_line : List (List ℕ) → List ℕ
ok_line ws = 0x6F ∷ 0x6B ∷ (words ws ++ (0x0A ∷ []))

-- the answer of a get or a put: the steps, the output
unfoldable pub success_line : (steps : ℕ) (output : List ℕ) → List ℕ
success_line steps output = ok_line (decimal_of steps ∷ hex_of output ∷ [])
