-- PIECES SET AS A TEXT: what the printer says is a text laid out, so its tokens are read from it.
use Rattle.std.specs.Prelude.{◌≡◌, Bool, false, not, ◌&&◌, ◌||◌, List, [], ◌∷◌, ◌++◌, ℕ}
use Rattle.std.proofs.Math.Path.{refl}
use Rattle.std.proofs.Common.{ap, arith}
use Rattle.std.proofs.Math.Bool.{true}
use Rattle.tokens.specs.Tokens.{Token, word, digits, hash, mark, class_of, arrow}
use Rattle.syntax.specs.Printer.{Piece, tok, gap, tokens_in}
use Rattle.tokens.specs.Same.{and-true, same_true}
use Rattle.tokens.specs.Laid.{is_letter, is_digit, is_blank, good, spelled, shuts, is_mark, Laid, nothing, gap as a_gap}
use Rattle.tokens.specs.Laid.{token, of_blank, of_other}

unfoldable pub text_in : List Piece → List ℕ
text_in [] = []
text_in (tok t ∷ ps) = spelled t ++ text_in ps
text_in (gap g ∷ ps) = g ++ text_in ps

-- WELL SET: a word or a number has a gap or a mark behind it (p: one is still wanted), and gaps are blank

abbrev pub blanks : List ℕ → Bool
blanks [] = true
blanks (c ∷ cs) = is_blank (class_of c) && blanks cs

abbrev is_empty : List ℕ → Bool
is_empty [] = true
is_empty (c ∷ cs) = false

pub data Fit : Bool → List Piece → Type 0 where
  end : {p : Bool} → Fit p []
  open' : {p : Bool} {k : List Piece} (g : List ℕ) → blanks g ≡ true → Fit (p && is_empty g) k → Fit p (gap g ∷ k)
  next : {p : Bool} {k : List Piece} (t : Token) → good t ≡ true → is_mark t || not p ≡ true → Fit (not (is_mark t)) k → Fit p (tok t ∷ k)

mark-shuts : (m s : List ℕ) → good (mark m) ≡ true → shuts (m ++ s) ≡ true
unfolding good shuts class_of
mark-shuts [] s g = let z : ◌≡◌ {A = ℕ} 0 1 = cc in absurd (omega arith)
mark-shuts (c ∷ []) s g = ap (λ k. not (is_letter k || is_digit k)) (of_other (class_of c) g)
mark-shuts (c ∷ d ∷ cs) s g = go (c ∷ d ∷ cs) (same_true (c ∷ d ∷ cs) arrow g)
  where
    go : (m : List ℕ) → m ≡ arrow → shuts (m ++ s) ≡ true
    go m e = rw e refl

token_shuts : (t : Token) (s : List ℕ) → good t ≡ true → is_mark t || false ≡ true → shuts (spelled t ++ s) ≡ true
unfolding is_mark spelled
token_shuts (word w) s g e = let z : ◌≡◌ {A = ℕ} 0 1 = cc in absurd (omega arith)
token_shuts (digits w b) s g e = let z : ◌≡◌ {A = ℕ} 0 1 = cc in absurd (omega arith)
token_shuts (hash w b) s g e = let z : ◌≡◌ {A = ℕ} 0 1 = cc in absurd (omega arith)
token_shuts (mark m) s g e = mark-shuts m s g

fit_shuts : {p : Bool} {k : List Piece} → Fit p k → p ≡ true → shuts (text_in k) ≡ true
unfolding text_in shuts
fit_shuts end e = refl
fit_shuts (open' [] b h) e = fit_shuts h (rw e refl)
fit_shuts (open' (c ∷ cs) b h) e = ap (λ k. not (is_letter k || is_digit k)) (of_blank (class_of c) (and-true (is_blank (class_of c)) (blanks cs) b).0)
fit_shuts (next {p} {k} t g m h) e = token_shuts t (text_in k) g (rw e at m)

gap_laid : {ts : List Token} {s : List ℕ} (g : List ℕ) → blanks g ≡ true → Laid ts s → Laid ts (g ++ s)
gap_laid [] b h = h
gap_laid (c ∷ cs) b h =
    let p = and-true (is_blank (class_of c)) (blanks cs) b in
    a_gap c (of_blank (class_of c) p.0) (gap_laid cs p.1 h)

pub fit_laid : {p : Bool} {k : List Piece} → Fit p k → Laid (tokens_in k) (text_in k)
unfolding tokens_in text_in
fit_laid end = nothing
fit_laid (open' g b h) = gap_laid g b (fit_laid h)
fit_laid (next {k = k} t g m h) = token t g (behind (is_mark t) (λ e. fit_shuts h (rw e refl))) (fit_laid h)
  where
    behind : (b : Bool) → (b ≡ false → shuts (text_in k) ≡ true) → b || shuts (text_in k) ≡ true
    behind true f = refl
    behind false f = f refl
