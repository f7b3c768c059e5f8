-- The overflow pages of a table by `sqlite_btree`, no two of them the same; and how many pages such a table takes.
use Rattle.std.proofs.Common.{◌≡◌, inl, inr, ℕ, zero, suc, ◌+◌, ◌-◌, ◌<◌, ◌≤◌, min, Bool, true, false, List, [], ◌∷◌, ◌++◌, length, refl, sym, ap, subst, ◌∙◌, arith, eq-eqb, ne_eqb}
use Rattle.std.proofs.lemmas.Bool.{cases_lt, cond-true, cond-false}
use Rattle.std.specs.Prelude.{nat_eq, if◌then◌else◌}
use Rattle.sqlite_pages.specs.PageMap.{PageMap}
use Rattle.sqlite_format.specs.declared.kind.Tree.TheVariants.{Table}
use Rattle.sqlite_format.specs.Bytes.{u32_at}
use Rattle.sqlite_format.specs.Cell.{spilled_len, first_overflow}
use Rattle.sqlite_btree.specs.Cut.{Each, IsIn, Ascends}
use Rattle.sqlite_btree.specs.Part.{Part, IsPartOf, all_pages}
use Rattle.sqlite_btree.specs.Items.{Item, item, is_row, body_of}
use Rattle.sqlite_btree.specs.Chain.{Layout, HasChain, IsChain, IsOnChain}
use Rattle.sqlite_btree.proofs.CutLemmas.{Each-in}
use Rattle.sqlite_btree.proofs.ChainLemmas.{chain_step, on_chain_owned}
use Rattle.law_wcdb.specs.Trees.{chain_pages, row_pages}
use Rattle.law_wcdb.proofs.ChainReads.{page_there}
use Rattle.law_wcdb.proofs.PagesApart.{NoneTwice, in_one, none_twice_both}

abbrev pub chain_list : Part → ℕ → ℕ → ℕ → ℕ → List ℕ
chain_list spill usable zero page left = []
chain_list spill usable (suc fuel) page left =
    if nat_eq left 0 then [] else page ∷ chain_list spill usable fuel (u32_at (spill page) 0) (left - min (usable - 4) left)

no_list : (spill : Part) (usable fuel page left : ℕ) → left ≡ 0 → chain_list spill usable fuel page left ≡ []
no_list spill usable zero page left none = refl
no_list spill usable (suc fuel) page left none = cond-true _ _ _ (eq-eqb left 0 none)

some_list : (spill : Part) (usable fuel page left : ℕ) → 0 < left
    → chain_list spill usable (suc fuel) page left ≡ page ∷ chain_list spill usable fuel (u32_at (spill page) 0) (left - min (usable - 4) left)
some_list spill usable fuel page left some = cond-false _ _ _ (ne_eqb left 0 (λ e. omega (arith, e, some)))

in_chain : (spill : Part) (usable fuel page left n : ℕ) → IsIn n (chain_list spill usable fuel page left) → IsOnChain spill usable fuel page left n
in_chain spill usable zero page left n at = at
in_chain spill usable (suc fuel) page left n at = elim (cases_lt 0 left) [
  | inl some ↦
      let here = subst (IsIn n) (some_list spill usable fuel page left some) at in
      (some, elim here [ inl e ↦ inl e | inr more ↦ inr (in_chain spill usable fuel _ _ n more) ])
  | inr none ↦ absurd (subst (IsIn n) (no_list spill usable (suc fuel) page left (omega (arith, none))) at)
]

chain_end : (layout : Layout) (usable : ℕ) (row : List ℕ) (fuel page left : ℕ) → IsChain layout usable row fuel page left → left ≡ 0 → page ≡ 0
chain_end layout usable row zero page left chain none = chain.1
chain_end layout usable row (suc fuel) page left (inl end) none = end.1
chain_end layout usable row (suc fuel) page left (inr link) none = absurd (omega (arith, link.0, none))

-- two chains from one page have as many links
same_links : (layout : Layout) (usable : ℕ) (row : List ℕ) (f g page m n : ℕ) → 4 < usable → IsChain layout usable row f page m
    → IsChain layout usable row g page n
    → 0 < n → m < n + (usable - 4)
same_links layout usable row zero g page m n size a b some = omega arith
same_links layout usable row (suc f) g page m n size (inl end) b some = omega arith
same_links layout usable row (suc f) g page m n size (inr link) b some =
    let other = chain_step layout usable row g page n b some in
    let next = u32_at (layout.spill page) 0 in
    elim (cases_lt (usable - 4) n) [
      | inl long ↦ omega (arith, same_links layout usable row f other.more next _ _ size link.4 other.rest (omega arith))
      | inr short ↦
          let last = chain_end layout usable row other.more next _ other.rest (omega arith) in
          elim (cases_lt 0 (m - min (usable - 4) m)) [
            | inl more ↦ absurd (omega (arith, (chain_step layout usable row f next _ link.4 more).past_first))
            | inr none ↦ omega arith
          ]
    ]

-- the chain from one of its pages on
record From (layout : Layout) (usable : ℕ) (row : List ℕ) (left n : ℕ) : Type 0 where
  fuel : ℕ
  rest : ℕ
  chain : IsChain layout usable row fuel n rest
  some : 0 < rest
  fewer : rest ≤ left

from_page : (layout : Layout) (usable : ℕ) (row : List ℕ) (fuel page left n : ℕ) → IsChain layout usable row fuel page left
    → IsOnChain layout.spill usable fuel page left n → From layout usable row left n
from_page layout usable row zero page left n chain on = absurd on
from_page layout usable row (suc fuel) page left n (inl end) on = absurd (omega (arith, on.0, end.0))
from_page layout usable row (suc fuel) page left n (inr link) on = elim on.1 [
  | inl e ↦
      let here : IsChain layout usable row (suc fuel) page left = inr link in
      record { fuel = suc fuel; rest = left; chain = subst (λ k. IsChain layout usable row (suc fuel) k left) (sym e) here; some = on.0; fewer = omega arith }
  | inr more ↦
      let there = from_page layout usable row fuel _ _ n link.4 more in
      record { fuel = there.fuel; rest = there.rest; chain = there.chain; some = there.some; fewer = omega (arith, there.fewer) }
]

chain_none_twice : (layout : Layout) (usable : ℕ) (row : List ℕ) → 4 < usable → (fuel page left : ℕ) → IsChain layout usable row fuel page left
    → NoneTwice (chain_list layout.spill usable fuel page left)
chain_none_twice layout usable row size zero page left chain = tt
chain_none_twice layout usable row size (suc fuel) page left (inl end) =
    subst NoneTwice (sym (no_list layout.spill usable (suc fuel) page left end.0)) tt
chain_none_twice layout usable row size (suc fuel) page left (inr link) =
    let here : IsChain layout usable row (suc fuel) page left = inr link in
    let next = u32_at (layout.spill page) 0 in
    let rest = left - min (usable - 4) left in
    let back : IsIn page (chain_list layout.spill usable fuel next rest) → ⊥ = λ at.
    let there = from_page layout usable row fuel next rest page link.4 (in_chain layout.spill usable fuel next rest page at) in
    let again = same_links layout usable row (suc fuel) there.fuel page left there.rest size here there.chain there.some in
    omega (arith, size, link.0, there.fewer, there.some, again) in
    subst NoneTwice (sym (some_list layout.spill usable fuel page left link.0)) (back, chain_none_twice layout usable row size fuel next rest link.4)

chain_count : (layout : Layout) (pages : PageMap) (usable : ℕ) (row : List ℕ) → 0 < usable → IsPartOf layout.spill pages → (fuel page left : ℕ)
    → IsChain layout usable row fuel page left → chain_pages (all_pages pages) usable fuel page left ≡ length (chain_list layout.spill usable fuel page left)
chain_count layout pages usable row size laid zero page left chain = refl
chain_count layout pages usable row size laid (suc fuel) page left (inl end) =
    cond-true _ _ _ (eq-eqb left 0 end.0) ∙ ap length (sym (no_list layout.spill usable (suc fuel) page left end.0))
chain_count layout pages usable row size laid (suc fuel) page left (inr link) =
    let there : all_pages pages page
    ≡ layout.spill page = page_there pages page (layout.spill page) (laid page (λ e. omega (arith, size, link.2, ap length e))) in
    cond-false _ _ _ (ne_eqb left 0 (λ e. omega (arith, e, link.0)))
    ∙ ap (λ b. suc (chain_pages (all_pages pages) usable fuel (u32_at b 0) (left - min (usable - 4) left))) there
    ∙ ap suc (chain_count layout pages usable row size laid fuel _ _ link.4)
    ∙ ap length (sym (some_list layout.spill usable fuel page left link.0))

-- ---- those of items

abbrev pub row_links : Part → ℕ → List ℕ → List ℕ
row_links spill usable row = chain_list spill usable (spilled_len Table usable row) (first_overflow Table usable row) (spilled_len Table usable row)

abbrev pub links_of : Part → ℕ → List Item → List ℕ
links_of spill usable [] = []
links_of spill usable (x ∷ xs) = (if is_row x then row_links spill usable (body_of x) else []) ++ links_of spill usable xs

abbrev pub HasChains : Layout → ℕ → Item → Type 0
HasChains layout usable x = is_row x ≡ true → HasChain Table usable layout (body_of x)

pub record IsLink (layout : Layout) (usable : ℕ) (items : List Item) (n : ℕ) : Type 0 where
  pub row : List ℕ
  pub among : IsIn (item true row) items
  pub owned : layout.owner n ≡ row
  pub size : length (layout.spill n) ≡ usable

pub in_links : (layout : Layout) (usable : ℕ) (items : List Item) (n : ℕ) → Each (HasChains layout usable) items → IsIn n (links_of layout.spill usable items)
    → IsLink layout usable items n
in_links layout usable [] n chains at = absurd at
in_links layout usable (item false body ∷ xs) n chains at =
    let more = in_links layout usable xs n chains.1 at in
    record { row = more.row; among = inr more.among; owned = more.owned; size = more.size }
in_links layout usable (item true body ∷ xs) n chains at = elim (in_one n (row_links layout.spill usable body) (links_of layout.spill usable xs) at) [
  | inl mine ↦
      let owned = on_chain_owned layout usable body _ _ _ n (chains.0 refl).chain (in_chain layout.spill usable _ _ _ n mine) in
      record { row = body; among = inl refl; owned = owned.1; size = owned.0 }
  | inr rest ↦
      let more = in_links layout usable xs n chains.1 rest in
      record { row = more.row; among = inr more.among; owned = more.owned; size = more.size }
]

pub links_none_twice : (layout : Layout) (usable : ℕ) (order : Item → Item → Bool) → 4 < usable → ((x : Item) → order x x ≡ true → ⊥) → (items : List Item)
    → Ascends order items → Each (HasChains layout usable) items → NoneTwice (links_of layout.spill usable items)
links_none_twice layout usable order size strict [] up chains = tt
links_none_twice layout usable order size strict (item false body ∷ xs) up chains = links_none_twice layout usable order size strict xs up.1 chains.1
links_none_twice layout usable order size strict (item true body ∷ xs) up chains =
    none_twice_both (row_links layout.spill usable body) (links_of layout.spill usable xs)
    (chain_none_twice layout usable body size _ _ _ (chains.0 refl).chain)
    (links_none_twice layout usable order size strict xs up.1 chains.1)
    (λ n p q.
    let mine = on_chain_owned layout usable body _ _ _ n (chains.0 refl).chain (in_chain layout.spill usable _ _ _ n p) in
    let other = in_links layout usable xs n chains.1 q in
    let same : body ≡ other.row = sym mine.1 ∙ other.owned in
    let x = item true body in
    strict x (Each-in (λ y. order x y ≡ true) xs x up.0 (subst (λ b. IsIn (item true b) xs) (sym same) other.among)))

pub row_count : (layout : Layout) (pages : PageMap) (usable : ℕ) (row : List ℕ) → 0 < usable → IsPartOf layout.spill pages → HasChain Table usable layout row
    → row_pages (all_pages pages) usable row ≡ length (row_links layout.spill usable row)
row_count layout pages usable row size laid has = chain_count layout pages usable row size laid _ _ _ has.chain
