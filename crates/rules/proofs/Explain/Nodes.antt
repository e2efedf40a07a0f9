-- What an explanation of a whole call names: nodes of the sheet alone, a last node of a kind that refuses so, and a first writer for 54 alone.
use Rattle.std.specs.Prelude.{◌≡◌, refl, List, [], ◌∷◌, ℕ, suc, ◌-◌, ◌≤◌, ◌<◌, length, get_or}
use Rattle.std.proofs.Common.{sym, ap, ◌∙◌, arith}
use Rattle.std.proofs.Math.Option.{none, some, none-ne-some}
use Rattle.value.specs.Result.{ok}
use Rattle.node.specs.declared.Node.TheVariants.{False}
use Rattle.sheet.specs.Sheet.{Sheet, read_sheet}
use Rattle.sheet.specs.Laws.{Ranges, sheet_ranges}
use Rattle.rules.specs.Explain.{Cause}
unfoldable pub use Rattle.rules.specs.Nodes.{Inside}
use Rattle.rules.specs.Nodes.{Way, out, back, MayRefuse, entry_in}
use Rattle.rules.specs.Explain.Chain.{Leads, Wrote, nobody as unwritten, somebody, last_of}
use Rattle.rules.specs.Explain.Calls.{walked, node, why_get, why_put, Says, WellExplained}
use Rattle.rules.proofs.Explain.Calls.{says_walked, why_get_says, why_put_says}

-- ITS NODES are the sheet's

-- nobody wrote first; or of 54 a node below b did
pub data First (b : ℕ) (y : Cause) : Type 0 where
  nobody : y.first ≡ none → First b y
  writer : {n : ℕ} → y.first ≡ some n → n < b → y.code ≡ 54 → First b y

-- every node that it names is one of b
pub record Names (b : ℕ) (y : Cause) : Type 0 where
  pub chain : Inside b y.chain
  pub first : First b y

-- or of 200, which no sheet goes over
abbrev pub Named : Cause → Type 0
Named y = Names 200 y

inside_more : {b c : ℕ} → b ≤ c → (l : List ℕ) → Inside b l → Inside c l
inside_more h [] i = tt
inside_more h (n ∷ l) i = (omega (arith, i.0, h), inside_more h l i.1)

first_more : {b c : ℕ} → b ≤ c → {y : Cause} → First b y → First c y
first_more h (nobody e) = nobody e
first_more h (writer e l c) = writer e (omega arith) c

chain_in : {sh : Sheet} (r : Ranges sh) (n : ℕ) → n < length sh.nodes → (l : List ℕ) → Leads sh n l → Inside (length sh.nodes) l
chain_in r n h [] e = tt
chain_in r n h (m ∷ l) e = let k = entry_in r n m h e.0 in (k, chain_in r m k l e.1)

first_in : {b : ℕ} {y : Cause} → Wrote (λ m. m < b) y → First b y
first_in (unwritten e c) = nobody e
first_in (somebody e i c) = writer e i c

names : {w : Way} {sh : Sheet} {y : Cause} → Ranges sh → WellExplained w sh y → Names (length sh.nodes) y
names {sh = sh} r h = let c = h.chain in record {
  chain = rw c.begins (r.root, chain_in r sh.root r.root c.rest c.leads);
  first = first_in h.wrote;
}

-- ITS LAST NODE is of a kind that refuses so: `refusals` of Nodes.antt

last_is : (n : ℕ) (l : List ℕ) → get_or (n ∷ l) (length (n ∷ l) - 1) 0 ≡ last_of n l
last_is n [] = refl
last_is n (m ∷ l) = let z : length (n ∷ m ∷ l) - 1 ≡ suc (length (m ∷ l) - 1) = omega arith in rw z (last_is m l)

kind : {w : Way} {sh : Sheet} {y : Cause} → WellExplained w sh y → 42 ≤ y.code → MayRefuse w (get_or sh.nodes (node y) False) y.code
kind {w} {sh} {y} h k =
    let c = h.chain in
    let z : node y ≡ last_of sh.root c.rest = ap (λ (l : List ℕ). get_or l (length l - 1) 0) c.begins ∙ last_is sh.root c.rest in
    rw z (h.kind k)

-- 54 HAS A FIRST WRITER, and no other refusal has one

pub record ByFirst (y : Cause) : Type 0 where
  pub named : y.code ≡ 54 → (m : ℕ) × (y.first ≡ some m)
  pub clash : (m : ℕ) → y.first ≡ some m → y.code ≡ 54

by_first : {P : ℕ → Type 0} {y : Cause} → Wrote P y → ByFirst y
by_first (unwritten e c) = record { named = λ z. absurd (c z); clash = λ m f. absurd (none-ne-some m (sym e ∙ f)) }
by_first (somebody {m} e i c) = record { named = λ z. (m, e); clash = λ n f. c }

-- OF WHOLE CALLS

-- what is said of the sheet that was read
of_sheet : {P : Sheet → Cause → Type 0} {sheet : List ℕ} {sh : Sheet} {y : Cause} → Says sheet P (walked y) → read_sheet sheet ≡ ok sh → P sh y
of_sheet {P} {sheet} {sh} {y} h e = let (s, r, p) = says_walked h in let z : s ≡ sh = cc in rw z at p

module _ (sheet plan : List ℕ) (allowance scratch : ℕ) {y : Cause} (e : why_get sheet plan allowance scratch ≡ walked y) where
  said_get : Says sheet (WellExplained out) (walked y)
  said_get = rw e at (why_get_says sheet plan allowance scratch)

  pub why_get_first : ByFirst y
  why_get_first = by_first (says_walked said_get).2.wrote

  module _ {sh : Sheet} (r : read_sheet sheet ≡ ok sh) where
    pub why_get_names : Names (length sh.nodes) y
    why_get_names = names (sheet_ranges sheet r) (of_sheet said_get r)

    pub why_get_kind : 42 ≤ y.code → MayRefuse out (get_or sh.nodes (node y) False) y.code
    why_get_kind k = kind (of_sheet said_get r) k

module _ (sheet plan view : List ℕ) (allowance scratch : ℕ) {y : Cause} (e : why_put sheet plan view allowance scratch ≡ walked y) where
  said_put : Says sheet (WellExplained back) (walked y)
  said_put = rw e at (why_put_says sheet plan view allowance scratch)

  pub why_put_first : ByFirst y
  why_put_first = by_first (says_walked said_put).2.wrote

  module _ {sh : Sheet} (r : read_sheet sheet ≡ ok sh) where
    pub why_put_names : Names (length sh.nodes) y
    why_put_names = names (sheet_ranges sheet r) (of_sheet said_put r)

    pub why_put_kind : 42 ≤ y.code → MayRefuse back (get_or sh.nodes (node y) False) y.code
    why_put_kind k = kind (of_sheet said_put r) k

named : {w : Way} {sheet : List ℕ} {y : Cause} → Says sheet (WellExplained w) (walked y) → Named y
named {sheet = sheet} {y} h =
    let (sh, e, p) = says_walked h in
    let r = sheet_ranges sheet e in
    let n = names r p in
    record { chain = inside_more r.few_nodes y.chain n.chain; first = first_more r.few_nodes n.first }

pub why_get_named : (sheet plan : List ℕ) (allowance scratch : ℕ) {y : Cause} → why_get sheet plan allowance scratch ≡ walked y → Named y
why_get_named sheet plan allowance scratch e = named (said_get sheet plan allowance scratch e)

pub why_put_named : (sheet plan view : List ℕ) (allowance scratch : ℕ) {y : Cause} → why_put sheet plan view allowance scratch ≡ walked y → Named y
why_put_named sheet plan view allowance scratch e = named (said_put sheet plan view allowance scratch e)
