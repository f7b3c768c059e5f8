-- Rows of nodes, read as the nodes that they were made of.
use Rattle.std.proofs.Common.{◌≡◌, ℕ, ◌+◌, ◌≤◌, ◌<◌, true, false, not, List, [], ◌∷◌, ◌++◌, length, Some, Ok, All, refl, sym, ap, ◌∙◌, arith, nat_eq, append-nil, append_assoc, length-append}
use Rattle.std.specs.Prelude.{bytes_eq, if◌then◌else◌}
use Rattle.std.proofs.Math.Seq.{take-append_seam, get_or-append_seam, drop-append-add}
use Rattle.std.proofs.lemmas.Bool.{and_from, ne_eqb, eq-eqb, lt-ltb, false_from_ne_true}
use Rattle.std.proofs.lemmas.List.Elements.{All-head, All-tail}
use Rattle.std.proofs.lemmas.Str.{is_utf8-from_IsUtf8}
use Rattle.svn_lists.proofs.Equality.{same_bytes, bytes_eq-same}
use Rattle.svn_lists.proofs.Every.{all_from_places}
use Rattle.svn_types.specs.Names.{Path, IsName, is_plain}
use Rattle.svn_types.specs.Paths.{parent}
use Rattle.svn_types.specs.PathTexts.{path_text}
use Rattle.svn_digits.proofs.PathTexts.{below, no_path_fault, spelled_path, utf8_path}
use Rattle.law_dump.specs.Laws.{IsPath}
use Rattle.law_dump.proofs.Lacking.{lacks_by}
use Rattle.svn_model.specs.declared.base_node.BaseNode.{BaseNode}
use Rattle.svn_model.specs.declared.base_node.BaseNode.TheVariants as base
use Rattle.svn_wcdb.specs.declared.table.TableRow.{TableRow}
use Rattle.svn_wcdb.specs.Bases.{References, Found, one_node, node_after, record_after, placed_after}
use Rattle.svn_wcdb.specs.Columns.{is_number, path_at}
use Rattle.svn_wcdb.specs.Nodes.{NodeRow, base_of}
use Rattle.svn_wcdb.specs.Paths.{path_of, lacks_slash, is_one_name, is_parent, is_in, place_in, text_from}
use Rattle.svn_wcdb.specs.Properties.{props_of}
use Rattle.svn_wcdb.specs.Reading.{◌>>=◌, at, each}
use Rattle.svn_wcrows.specs.declared.node_row.Owner.{Owner}
use Rattle.svn_wcrows.specs.Laws.{AreProps, IsNodeRow, IsOwner, NodesAreReadBack, RowsAreReadBack}
use Rattle.svn_wcrows.specs.Rows.{props_column, parent_column, node_row}
use Rattle.svn_wcrows.proofs.Skels.{props_read}

-- ---- the columns

pub path_read : (path : Path) → IsPath path → path_of (path_text path) ≡ Ok path
path_read path h =
    rw (
      is_utf8-from_IsUtf8 (path_text path) (utf8_path path h.texts),
      spelled_path path h.names,
      no_path_fault path (all_from_places IsName path h.names) h.bounded,
    )
    refl

column_read : (props : List (List ℕ × List ℕ)) → AreProps props → props_of (props_column props) ≡ Ok props
column_read [] are = refl
column_read (p ∷ props) are = props_read (p ∷ props) are

pub node_read : NodesAreReadBack
node_read owner path (base.Dir rev repos_path true props) pristines of text =
    rw (path_read repos_path of.0, column_read props of.1) refl
node_read owner path (base.Dir rev repos_path false props) pristines of text =
    rw (path_read repos_path of.0, column_read props of.1) refl
node_read owner path (base.File rev repos_path stand_in props) pristines of text =
    rw (path_read repos_path of.0, text, column_read props of.1) refl
node_read owner path base.NotPresent pristines of text = absurd of

-- ---- the path above

last_name : List ℕ → Path → List ℕ
last_name n [] = n
last_name n (m ∷ p) = last_name m p

last_is_name : (n : List ℕ) (p : Path) → All IsName (n ∷ p) → IsName (last_name n p)
unfolding last_name
last_is_name n [] h = All-head IsName n [] h
last_is_name n (m ∷ p) h = last_is_name m p (All-tail IsName n (m ∷ p) h)

-- the text of the path above, a slash and the last name
below_parent : (n : List ℕ) (p : Path) → below (n ∷ p) ≡ below (parent (n ∷ p)) ++ 47 ∷ last_name n p
unfolding last_name
below_parent n [] = append-nil (47 ∷ n)
below_parent n (m ∷ p) =
    ap (λ (l : List ℕ). (47 ∷ n) ++ l) (below_parent m p) ∙ sym (append_assoc (47 ∷ n) (below (parent (m ∷ p))) (47 ∷ last_name m p))

below_name : (m n : List ℕ) (p : Path) → path_text (m ∷ n ∷ p) ≡ path_text (parent (m ∷ n ∷ p)) ++ 47 ∷ last_name n p
below_name m n p =
    ap (λ (l : List ℕ). m ++ l) (below_parent n p) ∙ sym (append_assoc m (below (parent (n ∷ p))) (47 ∷ last_name n p))

named : (n : List ℕ) → IsName n → is_one_name (Some n) ≡ true
named n h =
    and_from (not (nat_eq (length n) 0)) (lacks_slash n) (ap not (ne_eqb (length n) 0 (λ none. omega (arith, none, h.not_empty))))
    (lacks_by is_plain 47 n refl h.plain)

longer_differs : (front more : List ℕ) → 1 ≤ length more → bytes_eq (front ++ more) front ≡ false
longer_differs front more some =
    false_from_ne_true (bytes_eq (front ++ more) front)
    (λ e. let same = ap length (same_bytes (front ++ more) front e) in omega (arith, same, some, length-append front more))

text_below : (front name : List ℕ) → 1 ≤ length front → 1 ≤ length name → text_from front (front ++ 47 ∷ name) ≡ Some name
unfolding text_from
text_below front name some named =
    let all : List ℕ = front ++ 47 ∷ name in
    let long : length front + 1 < length all = omega (arith, named, length-append front (47 ∷ name)) in
    let other : nat_eq (length front) 0 ≡ false = ne_eqb (length front) 0 (λ none. omega (arith, none, some)) in
    rw (
      other,
      longer_differs front (47 ∷ name) (omega arith),
      lt-ltb (length front + 1) (length all) long,
      take-append_seam front (47 ∷ name),
      bytes_eq-same front,
      get_or-append_seam front 47 name 0,
      drop-append-add front (47 ∷ name) 1,
    )
    refl

-- ---- whole rows

-- a row names the path above as its parent
parent_named : (path : Path) → All IsName path → is_parent (parent_column path) (path_text path) ≡ true
unfolding text_from
parent_named [] h = refl
parent_named (n ∷ []) h =
    ap (λ (t : List ℕ). is_one_name (text_from [] t)) (append-nil n) ∙ named n (All-head IsName n [] h)
parent_named (m ∷ n ∷ p) h =
    let front : List ℕ = path_text (parent (m ∷ n ∷ p)) in
    let last = last_is_name n p (All-tail IsName m (n ∷ p) h) in
    let some : 1 ≤ length front = omega (arith, (All-head IsName m (n ∷ p) h).not_empty, length-append m (below (parent (n ∷ p)))) in
    ap (λ (t : List ℕ). is_one_name (text_from front t)) (below_name m n p)
    ∙ ap is_one_name (text_below front (last_name n p) some last.not_empty) ∙ named (last_name n p) last

whole_text : (folder text : List ℕ) → folder ≡ [] → text_from folder text ≡ Some text
unfolding text_from
whole_text folder text none = rw none refl

node_added : (to : References) (row : NodeRow) (text : List ℕ) (path : Path) (node : BaseNode) (found : Found) → row.path ≡ Some text
    → text_from to.folder text ≡ Some text → path_of text ≡ Ok path → is_parent row.parent text ≡ true → base_of to.pristines row ≡ Ok node
    → one_node to row found ≡ Ok (found.0 ++ (path, node) ∷ [], found.1)
node_added to row text path node found placed whole spelled parent is = rw (placed, whole, spelled, parent, is) refl

row_added : (to : References) (row : NodeRow) (found : Found) → is_number row.wc_id to.wc_id ≡ true → is_number row.op_depth 0 ≡ true
    → row.is_external ≡ false → is_number row.repos_id to.repos_id ≡ true → node_after to row found ≡ one_node to row found
unfolding node_after
row_added to row found root base own repository = rw (root, base, own, repository) refl

abbrev present : Owner → Path → BaseNode → NodeRow → Type 0
present owner path node row =
    (row.wc_id ≡ Some owner.wc_id) × (row.op_depth ≡ Some 0) × (row.is_external ≡ false) × (row.repos_id ≡ Some owner.repos_id)
    × (row.path ≡ Some (path_text path)) × (row.parent ≡ parent_column path)

each_present : (owner : Owner) (path : Path) (node : BaseNode) → present owner path node (node_row owner path node)
each_present owner path (base.File rev repos_path text props) = (refl, refl, refl, refl, refl, refl)
each_present owner path (base.Dir rev repos_path complete props) = (refl, refl, refl, refl, refl, refl)
each_present owner path base.NotPresent = (refl, refl, refl, refl, refl, refl)

one_row : (owner : Owner) (to : References) (row : TableRow) (path : Path) (node : BaseNode) (found : Found) → IsOwner to owner
    → IsNodeRow owner to.pristines row path node → record_after to row found ≡ Ok (found.0 ++ (path, node) ∷ [], found.1)
unfolding record_after
one_row owner to row path node found own of =
    let columns : NodeRow = node_row owner path node in
    let is = each_present owner path node in
    ap (λ r. r >>= λ columns. node_after to columns found) of.columns
    ∙ row_added to columns found (ap (λ n. is_number n to.wc_id) is.0 ∙ eq-eqb owner.wc_id to.wc_id own.wc_id) (ap (λ n. is_number n 0) is.1)
    is.2 (ap (λ n. is_number n to.repos_id) is.3 ∙ eq-eqb owner.repos_id to.repos_id own.repos_id)
    ∙ node_added to columns (path_text path) path node found is.4 (whole_text to.folder (path_text path) own.whole) (path_read path of.path)
    (ap (λ p. is_parent p (path_text path)) is.5 ∙ parent_named path of.path.names) (node_read owner path node to.pristines of.node of.text)

-- of a whole copy each row is looked at
row_placed : (to : References) (row : TableRow) (found more : Found) → to.folder ≡ [] → record_after to row found ≡ Ok more
    → placed_after to row found ≡ Ok more
unfolding placed_after
row_placed to row found more whole reads =
    ap (λ f. if is_in f (path_at row.bytes) then at (place_in f (path_at row.bytes)) (record_after to row found) else Ok found) whole
    ∙ ap (at (place_in [] (path_at row.bytes))) reads

pub rows_read : RowsAreReadBack
rows_read owner to [] [] found own are = ap (λ l. Ok (l, found.1)) (sym (append-nil found.0))
rows_read owner to [] (entry ∷ nodes) found own are = absurd are
rows_read owner to (row ∷ rows) [] found own are = absurd are
rows_read owner to (row ∷ rows) (entry ∷ nodes) found own are =
    let more : Found = (found.0 ++ entry ∷ [], found.1) in
    ap (λ r. r >>= each (placed_after to) rows)
    (row_placed to row found more own.whole (one_row owner to row entry.0 entry.1 found own are.0))
    ∙ rows_read owner to rows nodes more own are.1 ∙ ap (λ l. Ok (l, found.1)) (append_assoc found.0 (entry ∷ []) nodes)
