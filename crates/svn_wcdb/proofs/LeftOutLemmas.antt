-- What rows leave out, row by row.
use Rattle.std.proofs.Common.{◌≡◌, ℕ, suc, ◌+◌, ◌≤◌, Bool, true, false, List, [], ◌∷◌, length, refl, sym, ap, ◌∙◌, arith}
use Rattle.std.specs.Prelude.{min, cond, filter, filter_map, fold, Option, Some, None, if◌then◌else◌}
use Rattle.std.specs.List.{cons_option}
use Rattle.std.proofs.Math.Nat.{min-eq_left}
use Rattle.std.proofs.lemmas.List.Sums.{length-filter, count_by-le-length}
use Rattle.svn_types.specs.Names.{Path}
use Rattle.svn_wcdb.specs.declared.depth.Depth.{Depth}
use Rattle.svn_wcdb.specs.declared.depth.Takes.{Takes}
use Rattle.svn_wcdb.specs.declared.depth.Takes.TheVariants.{Whole, Sparse}
use Rattle.svn_wcdb.specs.declared.table.TableRow.{TableRow}
use Rattle.svn_wcdb.specs.Columns.{path_at}
use Rattle.svn_wcdb.specs.Nodes.{NodeRow, row_of}
use Rattle.svn_wcdb.specs.Paths.{is_in}
use Rattle.svn_wcdb.specs.Sparse.{LeftOut, Depths, base_columns, base_in, count_of, counted_if, depths_of, has_presence, is_excluded, is_withheld, left_out_after, left_out_by, left_out_with, nothing_left_out, sparse_at, with_depth, with_entry}

-- a row outside of the folder is none of the base tree there
after_is : (folder : List ℕ) (l : LeftOut) (row : TableRow) → left_out_after Sparse folder l row ≡ left_out_with folder (base_in folder row) l
after_is folder l row = by (is_in folder (path_at row.bytes))
  where
    by : (b : Bool) → (if b then left_out_with folder (base_columns (row_of row.bytes)) l else l)
        ≡ left_out_with folder (if b then base_columns (row_of row.bytes) else None) l
    by true = refl
    by false = refl

one_depth : (depths : Depths) (entry : Option (Path × Depth)) (rest : Depths)
    → fold with_depth (with_entry depths entry) rest ≡ fold with_depth depths (cons_option entry rest)
one_depth depths None rest = refl
one_depth depths (Some entry) rest = refl

depths_after : (folder : List ℕ) (rows : List TableRow) (l : LeftOut)
    → (fold (left_out_after Sparse folder) l rows).depths ≡ fold with_depth l.depths (filter_map (sparse_at folder) rows)
depths_after folder [] l = refl
depths_after folder (row ∷ rows) l =
    depths_after folder rows (left_out_after Sparse folder l row)
    ∙ ap (λ (m : LeftOut). fold with_depth m.depths (filter_map (sparse_at folder) rows)) (after_is folder l row)
    ∙ one_depth l.depths (sparse_at folder row) (filter_map (sparse_at folder) rows)

-- one row more is counted, while the number fits
one_counted : {A : Type 0} (so : Bool) (n : ℕ) (x : A) (xs : List A) → n + length (cond so (x ∷ xs) xs) ≤ 18446744073709551615
    → counted_if so n + length xs ≡ n + length (cond so (x ∷ xs) xs)
one_counted true n x xs h =
    let fits : n + 1 ≤ 18446744073709551615 = omega (arith, h) in
    ap (λ k. k + length xs) (min-eq_left fits) ∙ omega arith
one_counted false n x xs h = refl

-- a number of what is left out, which counts the rows of a presence
abbrev Counts : (LeftOut → ℕ) → (Option (List ℕ) → Bool) → Type 0
Counts number is = (folder : List ℕ) (row : Option NodeRow) (l : LeftOut) → number (left_out_with folder row l) ≡ counted_if (has_presence is row) (number l)

count_after : (number : LeftOut → ℕ) (is : Option (List ℕ) → Bool) → Counts number is → (folder : List ℕ) (rows : List TableRow) (l : LeftOut)
    → number l + count_of is folder rows ≤ 18446744073709551615
    → number (fold (left_out_after Sparse folder) l rows) ≡ number l + count_of is folder rows
count_after number is counts folder [] l h = omega arith
count_after number is counts folder (row ∷ rows) l h =
    let one : number (left_out_after Sparse folder l row) ≡ counted_if (has_presence is (base_in folder row)) (number l) =
    ap number (after_is folder l row) ∙ counts folder (base_in folder row) l in
    let more = ap (λ n. n + count_of is folder rows) one
    ∙ one_counted (has_presence is (base_in folder row)) (number l) row (filter (λ (r : TableRow). has_presence is (base_in folder r)) rows) h in
    count_after number is counts folder rows (left_out_after Sparse folder l row) (omega (arith, more, h)) ∙ more

-- no more than all
count_fits : (is : Option (List ℕ) → Bool) (folder : List ℕ) (rows : List TableRow) → length rows ≤ 18446744073709551615
    → 0 + count_of is folder rows ≤ 18446744073709551615
count_fits is folder rows h =
    let of : TableRow → Bool = λ r. has_presence is (base_in folder r) in
    omega (arith, length-filter of rows, count_by-le-length of rows, h)

same_left_out : (l m : LeftOut) → l.depths ≡ m.depths → l.excluded ≡ m.excluded → l.withheld ≡ m.withheld → l ≡ m
same_left_out l m depths excluded withheld =
    ap (λ d. record { depths = d; excluded = l.excluded; withheld = l.withheld }) depths
    ∙ ap (λ (n : ℕ). record { depths = m.depths; excluded = n; withheld = l.withheld }) excluded
    ∙ ap (λ (n : ℕ). record { depths = m.depths; excluded = m.excluded; withheld = n }) withheld

nothing_after : (folder : List ℕ) (rows : List TableRow) (l : LeftOut) → fold (left_out_after Whole folder) l rows ≡ l
nothing_after folder [] l = refl
nothing_after folder (row ∷ rows) l = nothing_after folder rows (left_out_after Whole folder l row) ∙ by (is_in folder (path_at row.bytes))
  where
    by : (b : Bool) → (if b then l else l) ≡ l
    by true = refl
    by false = refl

-- row by row it is what all rows leave out
pub all_left_out : (takes : Takes) (folder : List ℕ) (rows : List TableRow) → length rows ≤ 18446744073709551615
    → fold (left_out_after takes folder) nothing_left_out rows ≡ left_out_by takes folder rows
all_left_out Whole folder rows h = nothing_after folder rows nothing_left_out
all_left_out Sparse folder rows h =
    same_left_out (fold (left_out_after Sparse folder) nothing_left_out rows) (left_out_by Sparse folder rows)
    (depths_after folder rows nothing_left_out)
    (count_after (λ l. l.excluded) is_excluded (λ f row l. refl) folder rows nothing_left_out (count_fits is_excluded folder rows h) ∙ omega arith)
    (count_after (λ l. l.withheld) is_withheld (λ f row l. refl) folder rows nothing_left_out (count_fits is_withheld folder rows h) ∙ omega arith)
