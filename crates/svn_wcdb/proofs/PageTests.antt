-- The test of a page is right.
use Rattle.std.proofs.Common.{◌≡◌, ℕ, zero, suc, ◌+◌, ◌*◌, ◌<◌, ◌≤◌, ◌⊎◌, Bool, List, length, sum_by, inl, inr, refl}
use Rattle.std.specs.Prelude.{nat_le, ◌||◌, slice_index}
use Rattle.std.specs.Bool.{Decides}
use Rattle.std.proofs.lemmas.Bool.{leb-true, le-leb, cases_eq}
use Rattle.std.proofs.lemmas.Bool.Decides.{Decides-eqb, Decides-ltb, Decides-and, Decides-or, Decides-like, Decides-below_and}
use Rattle.sqlite_pages.specs.PageMap.{IsUsableSize}
use Rattle.sqlite_format.specs.declared.kind.Kind.{Kind}
use Rattle.sqlite_format.specs.Bytes.{u16_at}
use Rattle.sqlite_format.specs.Kinds.{page_flag}
use Rattle.sqlite_format.specs.Page.{header_end, cell_count, content_start, cell_offset, cell_end, page_cells, first_freeblock, free_total, fragments, IsInContent, AreCellsApart, IsClearOfCells, IsFreeChain, IsTiled}
use Rattle.svn_wcdb.specs.Pages.{all_below, is_usable_size, is_inside, are_apart, is_clear, is_free_chain, is_tiled, is_page, TellsPages}

pub Decides-leb : (a b : ℕ) → Decides (nat_le a b) (a ≤ b)
Decides-leb a b = (leb-true a b, le-leb a b)

below : (n : ℕ) (p : ℕ → Bool) (P : ℕ → Type 0) → ((k : ℕ) → Decides (p k) (P k)) → Decides (all_below n p) ((k : ℕ) → k < n → P k)
below n p P each = Decides-below_and p P (λ m. all_below m p) each refl (λ _. refl) n

usable : (size : ℕ) → Decides (is_usable_size size) (IsUsableSize size)
usable size = Decides-and _ _ (Decides-leb 480 size) (Decides-leb size 65536)

inside : (kind : Kind) (page : List ℕ) (header i : ℕ)
    → Decides (is_inside kind page header i) (IsInContent kind page header (cell_offset kind.leaf page header i))
inside kind page header i =
    Decides-and _ _ (Decides-leb (content_start page header) (cell_offset kind.leaf page header i)) (Decides-leb (cell_end kind page header i) (length page))

apart : (kind : Kind) (page : List ℕ) (header count : ℕ)
    → Decides (all_below count (λ i. all_below count (are_apart kind page header i))) (AreCellsApart kind page header count)
apart kind page header count =
    let Apart : ℕ → ℕ → Type 0 = λ i j. (cell_end kind page header i ≤ cell_offset kind.leaf page header j) ⊎ (cell_end kind page header j ≤ cell_offset kind.leaf page header i) in
    Decides-like _
    (λ (all : (i : ℕ) → i < count → (j : ℕ) → j < count → (i ≡ j) ⊎ Apart i j) i j h k other.
    elim (all i h j k) as (λ _. Apart i j) [ inl same ↦ absurd (other same) | inr it ↦ it ])
    (λ all i h j k. elim (cases_eq i j) as (λ _. (i ≡ j) ⊎ Apart i j) [ inl same ↦ inl same | inr other ↦ inr (all i j h k other) ])
    (below count (λ i. all_below count (are_apart kind page header i)) (λ i. (j : ℕ) → j < count → (i ≡ j) ⊎ Apart i j)
    (λ i. below count (are_apart kind page header i) (λ j. (i ≡ j) ⊎ Apart i j)
    (λ j. Decides-or _ _ (Decides-eqb i j)
    (Decides-or _ _ (Decides-leb (cell_end kind page header i) (cell_offset kind.leaf page header j)) (Decides-leb (cell_end kind page header j) (cell_offset kind.leaf page header i))))))

clear : (kind : Kind) (page : List ℕ) (header from to : ℕ) → Decides (is_clear kind page header from to) (IsClearOfCells kind page header from to)
clear kind page header from to =
    below (cell_count page header) (λ i. nat_le to (cell_offset kind.leaf page header i) || nat_le (cell_end kind page header i) from)
    (λ i. (to ≤ cell_offset kind.leaf page header i) ⊎ (cell_end kind page header i ≤ from))
    (λ i. Decides-or _ _ (Decides-leb to (cell_offset kind.leaf page header i)) (Decides-leb (cell_end kind page header i) from))

chain : (page : List ℕ) (test : ℕ → ℕ → Bool) (Clear : ℕ → ℕ → Type 0) → ((from to : ℕ) → Decides (test from to) (Clear from to)) → (fuel low at : ℕ)
    → Decides (is_free_chain page test fuel low at) (IsFreeChain page Clear fuel low at)
chain page test Clear each zero low at = Decides-eqb at 0
chain page test Clear each (suc fuel) low at =
    let size = u16_at page (at + 2) in
    Decides-or _ _ (Decides-eqb at 0)
    (Decides-like _
    (λ t. (t.0, t.1.0, t.1.1.0, t.1.1.1.0, t.1.1.1.1.0, t.1.1.1.1.1))
    (λ t. (t.0, (t.1, (t.2, (t.3, (t.4, t.5))))))
    (Decides-and _ _ (Decides-ltb 0 at) (Decides-and _ _ (Decides-leb low at) (Decides-and _ _ (Decides-leb 4 size) (Decides-and _ _ (Decides-leb (at + size) (length page))
    (Decides-and _ _ (each at (at + size)) (chain page test Clear each fuel (at + size + 4) (u16_at page at))))))))

tiled : (kind : Kind) (page : List ℕ) (header : ℕ) → Decides (is_tiled kind page header) (IsTiled kind page header)
unfolding IsTiled
tiled kind page header =
    Decides-like _ (λ t. (t.0, t.1.0, t.1.1)) (λ t. (t.0, (t.1, t.2)))
    (Decides-and _ _ (chain page (is_clear kind page header) (IsClearOfCells kind page header) (clear kind page header) (length page) (content_start page header) (first_freeblock page header))
    (Decides-and _ _
    (Decides-eqb (content_start page header + sum_by length (page_cells kind page header) + free_total page (length page) (first_freeblock page header) + fragments page header) (length page))
    (Decides-leb (fragments page header) 60)))

pub tells_pages : TellsPages
unfolding is_page
tells_pages kind page header =
    Decides-like _
    (λ t. record { usable = t.0; flag = t.1.0; pointers = t.1.1.0; inside = t.1.1.1.0; room = t.1.1.1.1.0; apart = t.1.1.1.1.1.0; tiled = t.1.1.1.1.1.1 })
    (λ p. (p.usable, (p.flag, (p.pointers, (p.inside, (p.room, (p.apart, p.tiled)))))))
    (Decides-and _ _ (usable (length page)) (Decides-and _ _ (Decides-eqb (slice_index page header) (page_flag kind))
    (Decides-and _ _ (Decides-leb (header_end kind.leaf header + 2 * cell_count page header) (content_start page header))
    (Decides-and _ _ (below (cell_count page header) (is_inside kind page header) (λ i. IsInContent kind page header (cell_offset kind.leaf page header i)) (inside kind page header))
    (Decides-and _ _ (Decides-leb (content_start page header + sum_by length (page_cells kind page header)) (length page))
    (Decides-and _ _ (apart kind page header (cell_count page header)) (tiled kind page header)))))))
