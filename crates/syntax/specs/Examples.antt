-- Worked texts with their bytes, and faults with their places.
use Rattle.std.specs.Prelude.{◌≡◌, refl, List, [], ◌∷◌, ◌++◌, ℕ}
use Rattle.node.specs.Kinds.{written}
use Rattle.sheet.specs.Rows.{sheet_written}
use Rattle.tokens.specs.Quoted.{bytes}
use Rattle.tokens.specs.Tokens.{class_of, begin, on_word, on_digits, act, last, tokens, held, places, first, rest, word_of, mark_of, same}
use Rattle.syntax.specs.Reader.{◌>>=◌, find, is_name, symbol, keyword, bind, section_name, known, value, zero_first, valued, number, by_number}
use Rattle.syntax.specs.Reader.{variable_by, variable, test_by, test, word_begin, begin_of, behind_of, branch_of, room, begun, constant, pair_of}
use Rattle.syntax.specs.Reader.{behind, back, front_of, list_by, list_of, let_in, amount_by, amount_of, truth_case, list_case, branches, case_of, call_of}
use Rattle.syntax.specs.Reader.{each_of, named, shaped, parted, read, plan, unknown, section, sections, text_of_tokens, sheet_of_tokens, placed, sheet_of}
use Rattle.syntax.specs.Reader.{Said, says, refused}

-- (all that a reading computes with)
run : List ℕ → Said
unfolding class_of begin on_word on_digits act last tokens held places first rest word_of mark_of same
    ◌>>=◌ find is_name symbol keyword bind section_name known value zero_first valued number by_number variable_by variable
    test_by test word_begin begin_of behind_of branch_of room begun constant pair_of behind back front_of list_by list_of let_in
    amount_by amount_of truth_case list_case branches case_of call_of each_of named shaped parted read plan unknown section
    sections text_of_tokens sheet_of_tokens placed sheet_of written sheet_written
run t = sheet_of t

joined : sheet_of (bytes "-- 4. Two blocks joined: the list has the seats of both in one row.\n"
    ++ bytes "plan first, second\n"
    ++ bytes "list = join(first, second)\n\n"
    ++ bytes "section join(block, tail) =\n"
    ++ bytes "  case block of\n"
    ++ bytes "    []            -> tail\n"
    ++ bytes "    [seat | rest] -> [seat | join(rest, tail)] with members\n"
    ++ bytes "      default seat = false, rest = []\n"
    ++ bytes "  end\n")
    ≡ says (0x01 ∷ 0x02 ∷ 0x00 ∷ 0x20 ∷ 0x01 ∷ 0x1A ∷ 0x00 ∷ 0x00 ∷ 0x01 ∷ 0x17 ∷ 0x02 ∷ 0x03 ∷ 0x00 ∷ 0x04 ∷ 0x02 ∷ 0x07 ∷ 0x08 ∷ 0x10 ∷ 0x00 ∷ 0x10
    ∷ 0x01 ∷ 0x15 ∷ 0x05 ∷ 0x06 ∷ 0x10 ∷ 0x02 ∷ 0x1A ∷ 0x00 ∷ 0x03 ∷ 0x01 ∷ 0x11 ∷ 0x13 ∷ [])
unfolding run
joined = refl

swapped :
    sheet_of (bytes "-- 2. A pair of name and number: the tour wants the number first.\nplan entry\nlist = let (name, number) = entry in (number, name)\n")
    ≡ says (0x01 ∷ 0x01 ∷ 0x00 ∷ 0x19 ∷ 0x01 ∷ 0x02 ∷ 0x10 ∷ 0x00 ∷ 0x16 ∷ 0x03 ∷ 0x04 ∷ 0x10 ∷ 0x02 ∷ 0x10 ∷ 0x01 ∷ [])
unfolding run
swapped = refl

first_seat : sheet_of (bytes "-- 3. A block that may be empty: the tour sees its first seat alone.\n"
    ++ bytes "plan block\n"
    ++ bytes "list =\n"
    ++ bytes "  case block of\n"
    ++ bytes "    []              -> []     with empty\n"
    ++ bytes "    [seat | others] -> [seat] with one\n"
    ++ bytes "      default seat = 1, others = [2]\n"
    ++ bytes "  end\n")
    ≡ says (0x01 ∷ 0x01 ∷ 0x00 ∷ 0x17 ∷ 0x01 ∷ 0x02 ∷ 0x01 ∷ 0x03 ∷ 0x05 ∷ 0x06 ∷ 0x07 ∷ 0x10 ∷ 0x00 ∷ 0x13 ∷ 0x15 ∷ 0x04 ∷ 0x05 ∷ 0x10 ∷ 0x01 ∷ 0x13
    ∷ 0x14 ∷ 0x00 ∷ 0x01 ∷ 0x15 ∷ 0x08 ∷ 0x09 ∷ 0x14 ∷ 0x00 ∷ 0x02 ∷ 0x13 ∷ [])
unfolding run
first_seat = refl

old_plan : sheet_of (bytes "-- The old plan: whether a box is in use, and its seats if it is.\n"
    ++ bytes "plan used, seats\n"
    ++ bytes "list = ( used,\n"
    ++ bytes "         case used of\n"
    ++ bytes "           false -> []    with empty\n"
    ++ bytes "           true  -> seats with members\n"
    ++ bytes "         end )\n")
    ≡ says (0x01 ∷ 0x02 ∷ 0x00 ∷ 0x16 ∷ 0x01 ∷ 0x02 ∷ 0x10 ∷ 0x00 ∷ 0x18 ∷ 0x03 ∷ 0x04 ∷ 0x01 ∷ 0x05 ∷ 0x02 ∷ 0x10 ∷ 0x00 ∷ 0x13 ∷ 0x10 ∷ 0x01 ∷ [])
unfolding run
old_plan = refl

fees : sheet_of (bytes "-- 6. Prices with a fee of 250 pence, where the fee is wanted.\n"
    ++ bytes "plan prices, fee\n"
    ++ bytes "list =\n"
    ++ bytes "  case fee of\n"
    ++ bytes "    false -> prices\n"
    ++ bytes "    true  -> charged(prices, fee)\n"
    ++ bytes "  end\n\n"
    ++ bytes "section charged(prices, fee) =\n"
    ++ bytes "  case prices of\n"
    ++ bytes "    []              -> [] with empty\n"
    ++ bytes "    [ticket | rest] -> [ let (name, price) = ticket in (name, 250 + price) | charged(rest, fee) ] with members\n"
    ++ bytes "      default ticket = ([], 0), rest = []\n"
    ++ bytes "  end\n")
    ≡ says (0x01 ∷ 0x02 ∷ 0x00 ∷ 0x20 ∷ 0x04 ∷ 0x18 ∷ 0x01 ∷ 0x02 ∷ 0x00 ∷ 0x03 ∷ 0x00 ∷ 0x10 ∷ 0x01 ∷ 0x10 ∷ 0x00 ∷ 0x1A ∷ 0x00 ∷ 0x00 ∷ 0x01 ∷ 0x17
    ∷ 0x05 ∷ 0x06 ∷ 0x01 ∷ 0x07 ∷ 0x02 ∷ 0x0F ∷ 0x12 ∷ 0x10 ∷ 0x00 ∷ 0x13 ∷ 0x15 ∷ 0x08 ∷ 0x0E ∷ 0x19 ∷ 0x09 ∷ 0x0A ∷ 0x10 ∷ 0x02 ∷ 0x16 ∷ 0x0B ∷
    0x0C ∷ 0x10 ∷ 0x04 ∷ 0x1B ∷ 0x0D ∷ 0x00 ∷ 0xFA ∷ 0x10 ∷ 0x05 ∷ 0x1A ∷ 0x00 ∷ 0x03 ∷ 0x01 ∷ 0x16 ∷ 0x10 ∷ 0x11 ∷ 0x13 ∷ 0x14 ∷ 0x00 ∷ 0x00 ∷ 0x13 ∷ [])
unfolding run
fees = refl

long_row : sheet_of (bytes "-- 7. Each seat of a long row: numbers from 101, prices not shown; a new seat costs 500.\n"
    ++ bytes "plan row\n"
    ++ bytes "list = each shown(row, row) default (0, 500)\n\n"
    ++ bytes "section shown(seat, _) = let (number, _) = seat in 100 + number\n")
    ≡ says (0x01 ∷ 0x01 ∷ 0x00 ∷ 0x20 ∷ 0x05 ∷ 0x1C ∷ 0x01 ∷ 0x00 ∷ 0x00 ∷ 0x02 ∷ 0x10 ∷ 0x00 ∷ 0x16 ∷ 0x03 ∷ 0x04 ∷ 0x14 ∷ 0x00 ∷ 0x00 ∷ 0x14 ∷ 0x01
    ∷ 0xF4 ∷ 0x19 ∷ 0x06 ∷ 0x07 ∷ 0x10 ∷ 0x00 ∷ 0x1B ∷ 0x08 ∷ 0x00 ∷ 0x64 ∷ 0x10 ∷ 0x02 ∷ [])
unfolding run
long_row = refl

groups : sheet_of (bytes "-- 8. Prices for groups: a deposit, then price and size of each group, its leader counted too.\n"
    ++ bytes "plan groups\n"
    ++ bytes "list = (100000, each offer(groups, groups) default (10, 70000))\n\n"
    ++ bytes "section offer(group, _) = let (size, price) = group in (price, 1 + size)\n")
    ≡ says (0x01 ∷ 0x01 ∷ 0x00 ∷ 0x20 ∷ 0x07 ∷ 0x16 ∷ 0x01 ∷ 0x02 ∷ 0x1D ∷ 0x00 ∷ 0x01 ∷ 0x86 ∷ 0xA0 ∷ 0x1C ∷ 0x03 ∷ 0x00 ∷ 0x00 ∷ 0x04 ∷ 0x10 ∷ 0x00
    ∷ 0x16 ∷ 0x05 ∷ 0x06 ∷ 0x14 ∷ 0x00 ∷ 0x0A ∷ 0x1D ∷ 0x00 ∷ 0x01 ∷ 0x11 ∷ 0x70 ∷ 0x19 ∷ 0x08 ∷ 0x09 ∷ 0x10 ∷ 0x00 ∷ 0x16 ∷ 0x0A ∷ 0x0B ∷ 0x10 ∷
    0x03 ∷ 0x1B ∷ 0x0C ∷ 0x00 ∷ 0x01 ∷ 0x10 ∷ 0x02 ∷ [])
unfolding run
groups = refl

opened : sheet_of (bytes "-- 9. A row that is opened: the opening price of a new seat is the price in the list sent.\n"
    ++ bytes "plan row\n"
    ++ bytes "list = prices(row, row)\n\n"
    ++ bytes "section prices(row, _) =\n"
    ++ bytes "  case row of\n"
    ++ bytes "    []            -> [] with empty\n"
    ++ bytes "    [seat | rest] -> [ let (price, _) = seat in price | prices(rest, rest) ] with members\n"
    ++ bytes "      default seat = ( case sent of [] -> 0 [price | _] -> price default price = 0, _ = [] end\n"
    ++ bytes "                     , case sent of [] -> 0 [price | _] -> price default price = 0, _ = [] end ),\n"
    ++ bytes "              rest = []\n"
    ++ bytes "  end\n")
    ≡ says (0x01 ∷ 0x01 ∷ 0x00 ∷ 0x20 ∷ 0x01 ∷ 0x1A ∷ 0x00 ∷ 0x00 ∷ 0x00 ∷ 0x17 ∷ 0x02 ∷ 0x03 ∷ 0x01 ∷ 0x04 ∷ 0x02 ∷ 0x09 ∷ 0x16 ∷ 0x10 ∷ 0x00 ∷ 0x13
    ∷ 0x15 ∷ 0x05 ∷ 0x08 ∷ 0x19 ∷ 0x06 ∷ 0x07 ∷ 0x10 ∷ 0x02 ∷ 0x10 ∷ 0x04 ∷ 0x1A ∷ 0x00 ∷ 0x03 ∷ 0x03 ∷ 0x16 ∷ 0x0A ∷ 0x10 ∷ 0x17 ∷ 0x0B ∷ 0x0C ∷
    0x00 ∷ 0x0D ∷ 0x00 ∷ 0x0E ∷ 0x0F ∷ 0x10 ∷ 0x00 ∷ 0x14 ∷ 0x00 ∷ 0x00 ∷ 0x10 ∷ 0x01 ∷ 0x14 ∷ 0x00 ∷ 0x00 ∷ 0x13 ∷ 0x17 ∷ 0x11 ∷ 0x12 ∷ 0x00 ∷
    0x13 ∷ 0x00 ∷ 0x14 ∷ 0x15 ∷ 0x10 ∷ 0x00 ∷ 0x14 ∷ 0x00 ∷ 0x00 ∷ 0x10 ∷ 0x01 ∷ 0x14 ∷ 0x00 ∷ 0x00 ∷ 0x13 ∷ 0x13 ∷ [])
unfolding run
opened = refl

no_plan : sheet_of (bytes "list = 1") ≡ refused 90 0 1
unfolding run
no_plan = refl

seventeen : sheet_of (bytes "plan a, b, c, d, e, f, g, h, i, j, k, l, m, n, o, p, q\nlist = a") ≡ refused 94 53 70
unfolding run
seventeen = refl

unknown_name : sheet_of (bytes "plan a\nlist = (a, b)") ≡ refused 91 18 40
unfolding run
unknown_name = refl

given_twice : sheet_of (bytes "plan a, a\nlist = a") ≡ refused 92 8 50
unfolding run
given_twice = refl

zero_first_lem : sheet_of (bytes "plan a\nlist = 007") ≡ refused 93 15 61
unfolding run
zero_first_lem = refl

letter_behind : sheet_of (bytes "plan a\nlist = 12b") ≡ refused 93 16 62
unfolding run
letter_behind = refl

too_large : sheet_of (bytes "plan a\nlist = 4294967296") ≡ refused 93 23 60
unfolding run
too_large = refl

too_large_amount : sheet_of (bytes "plan a\nlist = 65536 + a") ≡ refused 93 20 63
unfolding run
too_large_amount = refl

hash_alone : sheet_of (bytes "plan a\nlist = # 1") ≡ refused 90 15 12
unfolding run
hash_alone = refl

hash_large : sheet_of (bytes "plan a\nlist = #256") ≡ refused 93 17 64
unfolding run
hash_large = refl

no_section : sheet_of (bytes "plan a\nlist = (f(a, a), g(a, a))\nsection f(x, y) = g(x, z)") ≡ refused 91 56 40
unfolding run
no_section = refl

no_section_2 : sheet_of (bytes "plan a\nlist = (f(a, a), each  g(a, a) default 1)\nsection f(x, y) = x") ≡ refused 91 30 43
unfolding run
no_section_2 = refl

cut : sheet_of (bytes "plan a\nlist = case a of [] -> a") ≡ refused 90 31 20
unfolding run
cut = refl

plus_behind : sheet_of (bytes "plan seat\nlist = seat + 100") ≡ refused 90 22 6
unfolding run
plus_behind = refl

sent_elsewhere : sheet_of (bytes "plan a\nlist = sent") ≡ refused 91 14 40
unfolding run
sent_elsewhere = refl

branch_in_default : sheet_of (bytes "plan a\nlist = case a of [] -> a [x | y] -> x default x = y, y = [] end") ≡ refused 91 57 41
unfolding run
branch_in_default = refl

byte : sheet_of (bytes "plan a\nlist = a ; b") ≡ refused 90 16 6
unfolding run
byte = refl

nothing : sheet_of (bytes "") ≡ refused 90 0 1
unfolding run
nothing = refl

section_twice : sheet_of (bytes "plan a\nlist = a section f(a, b) = a section f(a, b) = b") ≡ refused 92 44 51
unfolding run
section_twice = refl
