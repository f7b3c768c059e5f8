-- What a server said of a node is the reason that each history has which gives that answer.
use Rattle.std.proofs.Common.{◌≡◌, ℕ, ◌<◌, ◌≤◌, Bool, true, false, cond, List, [], ◌∷◌, length, map, Option, Some, None, true≢false, refl, sym, ap, ◌∙◌, arith}
use Rattle.std.specs.Prelude.{filter, filter_map, drop, nat_lt, slice_get, option_and_then}
use Rattle.std.specs.List.{cons_option, AllByRecursion}
use Rattle.std.proofs.lemmas.Bool.{lt-ltb, le-ltb}
use Rattle.std.proofs.lemmas.Option.{slice_get_past}
use Rattle.std.specs.Option.{option_map}
use Rattle.std.specs.Map.{keys_of}
use Rattle.md5.specs.Md5.{md5}
use Rattle.svn_types.specs.declared.kind.Kind.{Kind}
use Rattle.svn_types.specs.declared.kind.Kind.TheVariants.{File, Directory}
use Rattle.svn_types.specs.Names.{Path}
use Rattle.svn_repo.specs.History.{NodeRow, History, node_at, walk, look}
use Rattle.svn_repo.specs.Readings.{row_or_empty, is_directory}
use Rattle.svn_model.specs.declared.base_node.BaseNode.{BaseNode}
use Rattle.svn_model.specs.declared.base_node.BaseNode.TheVariants.{File as FileNode, Dir as DirNode, NotPresent}
use Rattle.svn_model.specs.Nodes.{WorkingCopy, node_revision, node_path}
use Rattle.svn_model.specs.Truth.{Properties}
use Rattle.svn_audit.specs.declared.reason.Reason.{Reason}
use Rattle.svn_audit.specs.declared.reason.Reason.TheVariants.{NoRevision, Nothing}
use Rattle.svn_audit.specs.declared.reason.Untrue.{Untrue}
use Rattle.svn_audit.specs.Places.{Place, file, directory, of_kind, file_by, dir_by, by_place, place_at, place_of, place_reason}
use Rattle.svn_audit.specs.Untrue.{missing_reason, untrue_by, untrue_at, untrue_in}
use Rattle.svn_audit.proofs.PlaceReasons.{reasons_are_of_places}
use Rattle.svn_ask.specs.Answers.{SaidValue}
use Rattle.svn_ask.specs.Answers as said
use Rattle.svn_digits.specs.StandIns.{stand_in_of_md5, md5_stand_in}
use Rattle.svn_live_audit.specs.Kept.{text_by, kept_row, kept_history}
use Rattle.svn_live_audit.specs.Verdicts.{Heard, IsThere, GivesAt, SaysAll, Gives, said_place, said_missing, untrue_said, untrue_heard, is_asked, IsOfAll, VerdictsHold}
use Rattle.svn_live_audit.proofs.KeptHistories.{node_kept, look_kept}

-- ---- what is in a place

-- a node as an audit looks at it
abbrev pub row_place : NodeRow → Place
row_place row = cond (is_directory row.kind) (directory row.props (keys_of row.entries)) (file row.text row.props)

placed : (h : History) (n : ℕ) (row : NodeRow) → node_at h n ≡ Some row → place_at h n ≡ row_place row
placed h n row e = ap (λ o. row_place (row_or_empty o)) e

-- what is kept of it, by its kind
abbrev kept_place : NodeRow → Kind → Place
kept_place row kind = cond (is_directory kind) (directory row.props (keys_of row.entries)) (file (text_by md5_stand_in kind row.text) row.props)

as_file : (row : NodeRow) (sum : List ℕ) (props : Properties) → row.kind ≡ File → md5 row.text ≡ sum → row.props ≡ props
    → row_place (kept_row md5_stand_in row) ≡ file (stand_in_of_md5 sum) props
as_file row sum props kind text same =
    ap (kept_place row) kind ∙ ap (λ (s : List ℕ). file (stand_in_of_md5 s) row.props) text ∙ ap (file (stand_in_of_md5 sum)) same

as_directory : (row : NodeRow) (props : Properties) (names : List (List ℕ)) → row.kind ≡ Directory → row.props ≡ props
    → keys_of row.entries ≡ names → row_place (kept_row md5_stand_in row) ≡ directory props names
as_directory row props names kind same keys =
    ap (kept_place row) kind ∙ ap (λ (ps : Properties). directory ps (keys_of row.entries)) same ∙ ap (directory props) keys

-- ---- one node

module _ (h : History) (w : WorkingCopy) (p : Path) where
  abbrev k : History
  k = kept_history md5_stand_in h

  there : {Holds : NodeRow → Type 0} (r : ℕ) (q : Path) (at : IsThere h r q Holds)
      → option_map (place_at k) (look k r q) ≡ Some (row_place (kept_row md5_stand_in at.1))
  there r q at =
      ap (option_map (place_at k)) (look_kept md5_stand_in h r q ∙ at.2)
      ∙ ap Some (placed k at.0 (kept_row md5_stand_in at.1) (node_kept md5_stand_in h at.0 ∙ ap (option_map (kept_row md5_stand_in)) at.3))

  absent : (r : ℕ) (q : Path) → look h r q ≡ None → option_map (place_at k) (look k r q) ≡ None
  absent r q e = ap (option_map (place_at k)) (look_kept md5_stand_in h r q ∙ e)

  no_revision : (r : ℕ) (q : Path) → length h.roots ≤ r → look h r q ≡ None
  no_revision r q past = ap (option_and_then (λ n. walk (node_at h) n q)) (slice_get_past h.roots r past)

  -- nothing is there, for this reason
  lacking : (why : Place → Option Reason) (r : ℕ) (q : Path) (missing : Reason) → look h r q ≡ None → missing_reason k r ≡ missing
      → Some missing ≡ by_place (missing_reason k r) why (option_map (place_at k) (look k r q))
  lacking why r q missing none reason =
      ap Some (sym reason) ∙ sym (ap (by_place (missing_reason k r) why) (absent r q none))

  found : {Holds : NodeRow → Type 0} (why : Place → Option Reason) (r : ℕ) (q : Path) (at : IsThere h r q Holds) (place : Place)
      → row_place (kept_row md5_stand_in at.1) ≡ place → why place ≡ by_place (missing_reason k r) why (option_map (place_at k) (look k r q))
  found why r q at place is = sym (ap (by_place (missing_reason k r) why) (there r q at ∙ ap Some is))

  -- where only the kind of a node is said, that is enough
  Enough : (why : Place → Option Reason) (r : ℕ) (q : Path) (s : SaidValue) → GivesAt h r q s → Type 0
  Enough why r q (said.file sum props) at = Unit {0}
  Enough why r q (said.directory props names) at = Unit {0}
  Enough why r q (said.of_kind kind) at = why (of_kind kind) ≡ why (row_place (kept_row md5_stand_in at.1))
  Enough why r q said.nothing at = Unit {0}
  Enough why r q said.no_directory at = ⊥
  Enough why r q said.no_revision at = Unit {0}

  by_said : (why : Place → Option Reason) (r : ℕ) (q : Path) (s : SaidValue) (at : GivesAt h r q s) → Enough why r q s at
      → by_place (said_missing s) why (said_place s) ≡ by_place (missing_reason k r) why (option_map (place_at k) (look k r q))
  unfolding Enough
  by_said why r q (said.file sum props) at enough = found why r q at (file (stand_in_of_md5 sum) props) (as_file at.1 sum props at.4.0 at.4.1 at.4.2)
  by_said why r q (said.directory props names) at enough =
      found why r q at (directory props names) (as_directory at.1 props names at.4.0 at.4.1 at.4.2)
  by_said why r q (said.of_kind kind) at enough = enough ∙ found why r q at (row_place (kept_row md5_stand_in at.1)) refl
  by_said why r q said.nothing at enough =
      lacking why r q Nothing at.0 (ap (λ b. cond b Nothing NoRevision) (lt-ltb r (length h.roots) at.1))
  by_said why r q said.no_directory at enough = absurd enough
  by_said why r q said.no_revision at enough =
      lacking why r q NoRevision (no_revision r q at) (ap (λ b. cond b Nothing NoRevision) (le-ltb r (length h.roots) at))

  for_file : (r : ℕ) (q : Path) (text : List ℕ) (props : Properties) (s : SaidValue) (at : GivesAt h r q s) → SaysAll (FileNode r q text props) s
      → Enough (file_by text props) r q s at
  unfolding Enough
  for_file r q text props (said.file sum others) at all = tt
  for_file r q text props (said.directory others names) at all = tt
  for_file r q text props (said.of_kind kind) at all =
      let row = at.1 in
      ap (λ kind. file_by text props (of_kind kind)) all
      ∙ sym (ap (file_by text props) (as_directory row row.props (keys_of row.entries) (at.4 ∙ all) refl refl))
  for_file r q text props said.nothing at all = tt
  for_file r q text props said.no_directory at all = all
  for_file r q text props said.no_revision at all = tt

  -- a directory is told from a file by its kind, and while it isn't complete, by nothing else
  of_file : (complete : Bool) (props : Properties) (row : NodeRow) (kind : Kind) → row.kind ≡ kind → kind ≡ File
      → dir_by w p complete props (of_kind kind) ≡ dir_by w p complete props (row_place (kept_row md5_stand_in row))
  of_file complete props row kind is file_is =
      ap (λ kind. dir_by w p complete props (of_kind kind)) file_is
      ∙ sym (ap (dir_by w p complete props) (ap (kept_place row) (is ∙ file_is)))

  of_any : (props : Properties) (row : NodeRow) (kind : Kind) → row.kind ≡ kind
      → dir_by w p false props (of_kind kind) ≡ dir_by w p false props (row_place (kept_row md5_stand_in row))
  of_any props row File is = of_file false props row File is refl
  of_any props row Directory is = sym (ap (dir_by w p false props) (ap (kept_place row) is))

  for_directory : (r : ℕ) (q : Path) (complete : Bool) (props : Properties) (s : SaidValue) (at : GivesAt h r q s)
      → SaysAll (DirNode r q complete props) s → Enough (dir_by w p complete props) r q s at
  unfolding Enough
  for_directory r q complete props (said.file sum others) at all = tt
  for_directory r q complete props (said.directory others names) at all = tt
  for_directory r q true props (said.of_kind kind) at all = of_file true props at.1 kind at.4 all
  for_directory r q false props (said.of_kind kind) at all = of_any props at.1 kind at.4
  for_directory r q complete props said.nothing at all = tt
  for_directory r q true props said.no_directory at all = all
  for_directory r q false props said.no_directory at all = all
  for_directory r q complete props said.no_revision at all = tt

  same_reason : (node : BaseNode) (s : SaidValue) → GivesAt h (node_revision (Some node)) (node_path (Some node)) s → SaysAll node s
      → place_reason w p node (said_missing s) (said_place s)
      ≡ place_reason w p node (missing_reason k (node_revision (Some node))) (place_of k node)
  same_reason NotPresent s at all = refl
  same_reason (FileNode r q text props) s at all = by_said (file_by text props) r q s at (for_file r q text props s at all)
  same_reason (DirNode r q complete props) s at all = by_said (dir_by w p complete props) r q s at (for_directory r q complete props s at all)

-- ---- all nodes

pub same_untrue : (h : History) (w : WorkingCopy) (x : Heard) → Gives h x → untrue_said w x ≡ untrue_at (kept_history md5_stand_in h) w x.0.0 x.0.1
same_untrue h w x gives =
    ap (option_map (untrue_by x.0.0 x.0.1))
    (same_reason h w x.0.0 x.0.1 x.1 gives.there gives.all ∙ sym (reasons_are_of_places (kept_history md5_stand_in h) w x.0.0 x.0.1))

-- a node that isn't asked for is not present, and isn't untrue
unasked : (h : History) (w : WorkingCopy) (e : Path × BaseNode) → is_asked e ≡ false → untrue_at h w e.0 e.1 ≡ None
unasked h w e = by e.1
  where
    by : (node : BaseNode) → is_asked (e.0, node) ≡ false → untrue_at h w e.0 node ≡ None
    by NotPresent none = refl
    by (FileNode r q text props) none = absurd (true≢false none)
    by (DirNode r q complete props) none = absurd (true≢false none)

abbrev first_or : {A : Type 0} → A → List A → A
first_or d [] = d
first_or d (x ∷ xs) = x

step : (h : History) (w : WorkingCopy) (e : Path × BaseNode) (es : List (Path × BaseNode))
    → ((heard : List Heard) → IsOfAll es heard → AllByRecursion (Gives h) heard → untrue_heard w heard ≡ untrue_in (kept_history md5_stand_in h) w es)
    → (b : Bool) → is_asked e ≡ b → (heard : List Heard) → map (λ (x : Heard). x.0) heard ≡ cond b (e ∷ filter is_asked es) (filter is_asked es)
    → AllByRecursion (Gives h) heard
    → untrue_heard w heard ≡ cons_option (untrue_at (kept_history md5_stand_in h) w e.0 e.1) (untrue_in (kept_history md5_stand_in h) w es)
step h w e es later false unseen heard of gives =
    later heard of gives ∙ ap (λ o. cons_option o (untrue_in (kept_history md5_stand_in h) w es)) (sym (unasked (kept_history md5_stand_in h) w e unseen))
step h w e es later true seen [] of gives = absurd (omega (arith, ap length of))
step h w e es later true seen (x ∷ xs) of gives =
    let here = kept_history md5_stand_in h in
    ap (λ o. cons_option o (untrue_heard w xs)) (same_untrue h w x gives.0 ∙ ap (λ c. untrue_at here w c.0 c.1) (ap (first_or e) of))
    ∙ ap (cons_option (untrue_at here w e.0 e.1)) (later xs (ap (drop 1) of) gives.1)

pub verdicts_hold : VerdictsHold
verdicts_hold h w [] [] of gives = refl
verdicts_hold h w [] (x ∷ xs) of gives = absurd (omega (arith, ap length of))
verdicts_hold h w (e ∷ es) heard of gives = step h w e es (verdicts_hold h w es) (is_asked e) refl heard of gives
