-- A value as JSON text (RFC 8259), with no white space: false, true, a plain decimal number, an array, or an object with the members "a" and "b" in that
-- order (document 02, request 11).
use Rattle.std.specs.Prelude.{List, [], ◌∷◌, ◌++◌, ℕ, suc, max, leb}
use Rattle.value.specs.Value.{Value, Values, vfalse, vtrue, list, number, wide, pair, nil, cons}
use Rattle.value.specs.Result.{Result, ok, unless}
use Rattle.report.specs.Text.{decimal_of}

unfoldable mutual
  pub json_of : Value → List ℕ
  json_of vfalse = 0x66 ∷ 0x61 ∷ 0x6C ∷ 0x73 ∷ 0x65 ∷ []
  json_of vtrue = 0x74 ∷ 0x72 ∷ 0x75 ∷ 0x65 ∷ []
  json_of (list l) = 0x5B ∷ members_of l
  json_of (number n) = decimal_of n
  json_of (wide n) = decimal_of n
  json_of (pair a b) = 0x7B ∷ 0x22 ∷ 0x61 ∷ 0x22 ∷ 0x3A ∷ (json_of a ++ (0x2C ∷ 0x22 ∷ 0x62 ∷ 0x22 ∷ 0x3A ∷ (json_of b ++ (0x7D ∷ []))))

  -- behind `[`: the members with a comma between two, and `]`
  pub members_of : Values → List ℕ
  members_of nil = 0x5D ∷ []
  members_of (cons v l) = json_of v ++ more_of l

  -- behind a member
  pub more_of : Values → List ℕ
  more_of nil = 0x5D ∷ []
  more_of (cons v l) = 0x2C ∷ (json_of v ++ more_of l)

-- how deep arrays and objects nest
unfoldable mutual
  pub depth : Value → ℕ
  depth vfalse = 0
  depth vtrue = 0
  depth (list l) = suc (depths l)
  depth (number n) = 0
  depth (wide n) = 0
  depth (pair a b) = suc (max (depth a) (depth b))

  pub depths : Values → ℕ
  depths nil = 0
  depths (cons v l) = max (depth v) (depths l)

-- arrays and objects nest at most 48 deep
abbrev pub level_limit : ℕ
level_limit = 48

-- the text of a value; 71 where arrays and objects nest 49 deep
unfoldable pub write_json : Value → Result (List ℕ)
write_json v = unless 71 (leb (depth v) level_limit) (ok (json_of v))
