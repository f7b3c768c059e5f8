-- What an order check finds in its parts, as the calls before say it.
use Rattle.std.proofs.Common.{◌≡◌, ℕ, suc, zero, ◌-◌, ◌<◌, Bool, true, false, ◌&&◌, ◌||◌, not, List, [], ◌∷◌, length, map, refl, sym, ◌∙◌}
use Rattle.std.proofs.Common.{ap, subst, true≢false, arith}
use Rattle.std.specs.Prelude.{Option, Some, None, slice_get, nat_eq}
use Rattle.std.specs.List.{list_any}
use Rattle.std.specs.Option.{option_map}
use Rattle.std.proofs.lemmas.List.{length-map}
use Rattle.std.proofs.lemmas.Option.{same_Some, slice_get-map, slice_get_within}
use Rattle.std.proofs.lemmas.Bool.{and_parts, eq-eqb, not-false, or_parts, eqb-true}
use Rattle.std.proofs.lemmas.Map.Keys.{any_passes_from_place}
use Rattle.std.specs.Cmp.{both_ways}
use Rattle.svn_lists.proofs.Filters.{any_both, any_kept, filter_member}
use Rattle.svn_lists.proofs.Options.{some-none}
use Rattle.svn_lists.proofs.Places.{length-le_from_none, like_at}
use Rattle.svn_lists.proofs.Somewhere.{any_found}
use Rattle.svn_types.specs.declared.kind.Kind.{Kind}
use Rattle.svn_types.specs.declared.kind.Kind.TheVariants.{File, Directory}
use Rattle.svn_types.specs.Names.{Path}
use Rattle.svn_types.specs.Paths.{path_eq, parent, is_root, child}
use Rattle.svn_editor.specs.declared.call.Call.{Call}
use Rattle.svn_order.specs.declared.directories.OpenedDirectory.{OpenedDirectory}
use Rattle.svn_order.specs.declared.tokens.GivenToken.{GivenToken}
use Rattle.svn_order.specs.declared.order.OrderCheck.{OrderCheck}
use Rattle.svn_editor.specs.Calls.{Given, kind_eq, number_eq, opens_entry, deletes, applies_text, all_given, given, is_closed, given_path}
use Rattle.svn_editor.specs.Calls.{path_of, is_of_kind, innermost, is_open_directory, is_open_file, opens_below, a_directory_is_open}
use Rattle.svn_editor.specs.Calls.{a_file_is_open, a_subdirectory_is_open, changed_late}
use Rattle.svn_editor.specs.Order.{is_outside}
use Rattle.svn_order.specs.Tokens.{is_of_kind_in, is_closed_in, has_text_in, is_of_kind_at, is_closed_at, has_text_at, is_unclosed_file}
use Rattle.svn_order.specs.Directories.{entry_name, shown, innermost_of, changed_late_of, changed_late_in, is_directory, holds_entry}
use Rattle.svn_order.specs.Directories.{opened_of, deleted_of, is_opened_in, is_deleted_in}
use Rattle.svn_order.specs.OrderState.{none_open}
use Rattle.svn_order.specs.StandsAfter.{open_directories, token_and_path, Holds}
use Rattle.svn_types.proofs.PathLemmas.{same_path, path_eq_from}
use Rattle.svn_editor.proofs.Nested.{last_token, same_number, nested_last, open_below_last}
use Rattle.svn_order.proofs.Sound.{IsSound, IsKnown}
use Rattle.svn_order.proofs.OpenDirectories.{placed, innermost_is, new_unclosed, new_textless}

-- ---- places in two lists that show the same

pub record IsShown (ds : List OpenedDirectory) (i : ℕ) (g : Given) : Type 0 where
  pub directory : OpenedDirectory
  pub is : slice_get ds i ≡ Some directory
  pub token : directory.token ≡ g.token
  pub path : directory.path ≡ g.path

pub shown_at : (ds : List OpenedDirectory) (gs : List Given) (i : ℕ) (g : Given) → map shown ds ≡ map token_and_path gs
    → slice_get gs i ≡ Some g → IsShown ds i g
shown_at ds gs i g e h =
    let d = like_at shown token_and_path ds gs i g e h in
    record { directory = d.0; is = d.1; token = ap (λ p. p.0) d.2; path = ap (λ p. p.1) d.2 }

pub record IsGivenAt (gs : List Given) (i : ℕ) (d : OpenedDirectory) : Type 0 where
  pub given_as : Given
  pub is : slice_get gs i ≡ Some given_as
  pub token : d.token ≡ given_as.token
  pub path : d.path ≡ given_as.path

pub given_at : (ds : List OpenedDirectory) (gs : List Given) (i : ℕ) (d : OpenedDirectory) → map shown ds ≡ map token_and_path gs
    → slice_get ds i ≡ Some d → IsGivenAt gs i d
given_at ds gs i d e h =
    let g = like_at token_and_path shown gs ds i d (sym e) h in
    record { given_as = g.0; is = g.1; token = ap (λ p. p.0) (sym g.2); path = ap (λ p. p.1) (sym g.2) }

pub same_length : (ds : List OpenedDirectory) (gs : List Given) → map shown ds ≡ map token_and_path gs → length ds ≡ length gs
same_length ds gs e = sym (length-map ds shown) ∙ ap length e ∙ length-map gs token_and_path

-- ---- tokens

not_given : (s : OrderCheck) (calls : List Call) (t : ℕ) → Holds s calls → slice_get s.tokens.items t ≡ None → given calls t ≡ None
not_given s calls t h e = by (given calls t) refl
  where
    by : (o : Option Given) → given calls t ≡ o → o ≡ None
    by None k = refl
    by (Some g) k =
        let l : t < length (all_given calls) = slice_get_within (all_given calls) t g k in
        let n = there s.tokens.items t (omega (arith, h.count)) in
        absurd (some-none n.0 (sym n.1 ∙ e))
      where
        there : (ns : List GivenToken) (i : ℕ) → i < length ns → (n : GivenToken) × (slice_get ns i ≡ Some n)
        there [] i l = absurd (omega arith)
        there (n ∷ ns) zero l = (n, refl)
        there (n ∷ ns) (suc i) l = there ns i (omega arith)

pub kind_at : (s : OrderCheck) (calls : List Call) (t : ℕ) (k : Kind) → Holds s calls
    → is_of_kind_at s.tokens.items t k ≡ is_of_kind k (given calls t)
kind_at s calls t k h = by (slice_get s.tokens.items t) refl
  where
    by : (o : Option GivenToken) → slice_get s.tokens.items t ≡ o → is_of_kind_in k o ≡ is_of_kind k (given calls t)
    by None e = sym (ap (is_of_kind k) (not_given s calls t h e))
    by (Some n) e = sym ((h.tokens t n e).kind k)

pub closed_at : (s : OrderCheck) (calls : List Call) (t : ℕ) → Holds s calls → IsSound calls
    → is_closed_at s.tokens.items t ≡ is_closed calls t
closed_at s calls t h sound = by (slice_get s.tokens.items t) refl
  where
    by : (o : Option GivenToken) → slice_get s.tokens.items t ≡ o → is_closed_in o ≡ is_closed calls t
    by None e = sym (new_unclosed calls t sound (length-le_from_none (all_given calls) t (not_given s calls t h e)))
    by (Some n) e = sym (h.tokens t n e).closed

pub text_at : (s : OrderCheck) (calls : List Call) (t : ℕ) → Holds s calls → IsSound calls
    → has_text_at s.tokens.items t ≡ list_any (applies_text t) calls
text_at s calls t h sound = by (slice_get s.tokens.items t) refl
  where
    by : (o : Option GivenToken) → slice_get s.tokens.items t ≡ o → has_text_in o ≡ list_any (applies_text t) calls
    by None e = sym (new_textless calls t sound (length-le_from_none (all_given calls) t (not_given s calls t h e)))
    by (Some n) e = sym (h.tokens t n e).text

-- ---- the innermost directory

last_get : (g : Given) (gs : List Given) (found : Option ℕ)
    → last_token found (g ∷ gs) ≡ option_map (λ x. x.token) (slice_get (g ∷ gs) (length gs))
last_get g [] found = refl
last_get g (x ∷ gs) found = last_get x gs (Some g.token)

last_is : (gs : List Given) → last_token None gs ≡ option_map (λ x. x.token) (slice_get gs (length gs - 1))
last_is [] = refl
last_is (g ∷ gs) = last_get g gs None ∙ ap (λ i. option_map (λ x. x.token) (slice_get (g ∷ gs) i)) (omega arith)

pub innermost_at : (s : OrderCheck) (calls : List Call) → Holds s calls → innermost_of s.directories.items ≡ innermost calls
innermost_at s calls h =
    by (slice_get ds (length ds - 1)) (slice_get gs (length gs - 1)) same ∙ sym (last_is gs) ∙ sym (innermost_is calls)
  where
    ds : List OpenedDirectory
    ds = s.directories.items

    gs : List Given
    gs = open_directories calls

    same :
        option_map shown (slice_get s.directories.items (length s.directories.items - 1))
        ≡ option_map token_and_path (slice_get (open_directories calls) (length (open_directories calls) - 1))
    same =
        sym (slice_get-map shown s.directories.items (length s.directories.items - 1))
        ∙ ap (λ (ps : List (ℕ × Path)). slice_get ps (length s.directories.items - 1)) h.nesting
        ∙ slice_get-map token_and_path (open_directories calls) (length s.directories.items - 1)
        ∙ ap (λ n. option_map token_and_path (slice_get (open_directories calls) (n - 1)))
        (same_length s.directories.items (open_directories calls) h.nesting)

    by : (o : Option OpenedDirectory) (q : Option Given) → option_map shown o ≡ option_map token_and_path q
        → option_map (λ d. d.token) o ≡ option_map (λ x. x.token) q
    by None None e = refl
    by None (Some g) e = absurd (some-none _ (sym e))
    by (Some d) None e = absurd (some-none _ e)
    by (Some d) (Some g) e = ap Some (ap (λ p. p.0) (same_Some (shown d) (token_and_path g) e))

pub none_open_at : (s : OrderCheck) (calls : List Call) → Holds s calls → not (none_open s.directories.items) ≡ a_directory_is_open calls
none_open_at s calls h =
    ap (λ n. not (nat_eq n 0)) (same_length s.directories.items (open_directories calls) h.nesting)
    ∙ sym (any_kept (is_open_directory calls) (all_given calls))

-- a directory in an open one is open exactly where that isn't the innermost
pub open_below_at : (s : OrderCheck) (calls : List Call) (t : ℕ) → Holds s calls → IsSound calls → IsKnown calls t Directory
    → not (number_eq (innermost_of s.directories.items) (Some t)) ≡ a_subdirectory_is_open calls t
open_below_at s calls t h sound k =
    let at = placed calls t sound k in
    let kept = any_both (opens_below t) (is_open_directory calls) (all_given calls) in
    let tested = open_below_last (open_directories calls) 0 0 None at.place k.given_as sound.nested (λ e. some-none _ (sym e)) at.is in
    ap (λ o. not (number_eq o (Some t))) (innermost_at s calls h ∙ innermost_is calls)
    ∙ sym (subst
    (λ n. list_any (opens_below n) (open_directories calls) ≡ not (number_eq (last_token None (open_directories calls)) (Some n)))
    at.token tested)
    ∙ sym kept

-- ---- an open directory, and its entries

pub record IsHeld (s : OrderCheck) (calls : List Call) (t i : ℕ) : Type 0 where
  pub directory : OpenedDirectory
  pub is : slice_get s.directories.items i ≡ Some directory
  pub token : directory.token ≡ t
  pub path : directory.path ≡ path_of calls t
  pub depth : length (path_of calls t) ≡ i

pub held : (s : OrderCheck) (calls : List Call) (t : ℕ) → Holds s calls → IsSound calls → (k : IsKnown calls t Directory)
    → IsHeld s calls t (length (path_of calls t))
held s calls t h sound k =
    let at = placed calls t sound k in
    let same : path_of calls t ≡ k.given_as.path = ap given_path k.is in
    let depth : at.place ≡ length (path_of calls t) = sym at.depth ∙ ap length (sym same) in
    let d =
    shown_at s.directories.items (open_directories calls) (length (path_of calls t)) k.given_as h.nesting
    (ap (slice_get (open_directories calls)) (sym depth) ∙ at.is) in
    record { directory = d.directory; is = d.is; token = d.token ∙ at.token; path = d.path ∙ sym same; depth = refl }

-- a directory that is held has the path of its token
pub path_held : (s : OrderCheck) (calls : List Call) (i : ℕ) (d : OpenedDirectory) → Holds s calls → IsSound calls
    → slice_get s.directories.items i ≡ Some d → d.path ≡ path_of calls d.token
path_held s calls i d h sound e =
    let at = given_at s.directories.items (open_directories calls) i d h.nesting e in
    let m = filter_member (is_open_directory calls) (all_given calls) i at.given_as at.is in
    let number : d.token ≡ m.0 = at.token ∙ sound.numbered m.0 at.given_as m.1 in
    at.path ∙ sym (ap given_path (ap (given calls) number ∙ m.1))

pub holds_entry_at : (s : OrderCheck) (calls : List Call) (t : ℕ) (q : Path) → Holds s calls → IsSound calls → IsKnown calls t Directory
    → not (holds_entry s.directories.items t q) ≡ (is_root q || not (path_eq (parent q) (path_of calls t)))
holds_entry_at s calls t q h sound k =
    by (is_root q) ∙ ap (λ b. is_root q || not b) (both_ways _ _ there back)
  where
    by : (b : Bool) → not (not b && is_directory t (parent q) (slice_get s.directories.items (length (parent q))))
        ≡ (b || not (is_directory t (parent q) (slice_get s.directories.items (length (parent q)))))
    by true = refl
    by false = refl

    there : is_directory t (parent q) (slice_get s.directories.items (length (parent q))) ≡ true
        → path_eq (parent q) (path_of calls t) ≡ true
    there e = at (slice_get s.directories.items (length (parent q))) refl e
      where
        at : (o : Option OpenedDirectory) → slice_get s.directories.items (length (parent q)) ≡ o → is_directory t (parent q) o ≡ true
            → path_eq (parent q) (path_of calls t) ≡ true
        at None n e = absurd (true≢false (sym e))
        at (Some d) n e =
            let parts = and_parts (nat_eq d.token t) (path_eq d.path (parent q)) e in
            path_eq_from (parent q) (path_of calls t)
            (sym (same_path d.path (parent q) parts.1) ∙ path_held s calls (length (parent q)) d h sound n
            ∙ ap (path_of calls) (eqb-true d.token t parts.0))

    back : path_eq (parent q) (path_of calls t) ≡ true
        → is_directory t (parent q) (slice_get s.directories.items (length (parent q))) ≡ true
    back e =
        let same : parent q ≡ path_of calls t = same_path (parent q) (path_of calls t) e in
        let d = held s calls t h sound k in
        ap (is_directory t (parent q)) (ap (λ (p : Path). slice_get s.directories.items (length p)) same ∙ d.is)
        ∙ ap (λ b. b && path_eq d.directory.path (parent q)) (eq-eqb d.directory.token t d.token)
        ∙ path_eq_from d.directory.path (parent q) (d.path ∙ sym same)

child_split : (q : Path) → is_root q ≡ false → child (parent q) (entry_name q) ≡ q
child_split [] r = absurd (true≢false r)
child_split (n ∷ []) r = refl
child_split (m ∷ n ∷ q) r = ap (λ (p : Path). m ∷ p) (child_split (n ∷ q) refl)

-- the directory of an entry
pub record IsParent (s : OrderCheck) (calls : List Call) (t : ℕ) (q : Path) : Type 0 where
  pub directory : OpenedDirectory
  pub is : slice_get s.directories.items (length (parent q)) ≡ Some directory
  pub token : directory.token ≡ t
  pub entry : child directory.path (entry_name q) ≡ q
  pub path : directory.path ≡ parent q
  pub below_root : is_root q ≡ false

pub parent_of : (s : OrderCheck) (calls : List Call) (t : ℕ) (q : Path) → Holds s calls → IsSound calls → IsKnown calls t Directory
    → is_outside calls (Some (t, Directory)) (Some q) ≡ false → IsParent s calls t q
parent_of s calls t q h sound k o =
    let parts = or_parts (is_root q) (not (path_eq (parent q) (path_of calls t))) o in
    let same : parent q ≡ path_of calls t =
    same_path (parent q) (path_of calls t) (not-false (path_eq (parent q) (path_of calls t)) parts.1) in
    let d = held s calls t h sound k in
    record {
      directory = d.directory;
      is = ap (λ (p : Path). slice_get s.directories.items (length p)) same ∙ d.is;
      token = d.token;
      entry = ap (λ (p : Path). child p (entry_name q)) (d.path ∙ sym same) ∙ child_split q parts.0;
      path = d.path ∙ sym same;
      below_root = parts.0;
    }

pub opened_at : (s : OrderCheck) (calls : List Call) (t : ℕ) (q : Path) → Holds s calls → IsParent s calls t q
    → is_opened_in s.directories.items q ≡ list_any (opens_entry q) calls
opened_at s calls t q h p =
    ap (λ b. not b && opened_of (entry_name q) (slice_get s.directories.items (length (parent q)))) p.below_root
    ∙ ap (opened_of (entry_name q)) p.is ∙ sym ((h.directories (length (parent q)) p.directory p.is).opened (entry_name q))
    ∙ ap (λ (r : Path). list_any (opens_entry r) calls) p.entry

pub deleted_at : (s : OrderCheck) (calls : List Call) (t : ℕ) (q : Path) → Holds s calls → IsParent s calls t q
    → is_deleted_in s.directories.items q ≡ list_any (deletes q) calls
deleted_at s calls t q h p =
    ap (λ b. not b && deleted_of (entry_name q) (slice_get s.directories.items (length (parent q)))) p.below_root
    ∙ ap (deleted_of (entry_name q)) p.is ∙ sym ((h.directories (length (parent q)) p.directory p.is).deleted (entry_name q))
    ∙ ap (λ (r : Path). list_any (deletes r) calls) p.entry

-- the place of the innermost directory
pub innermost_place : (s : OrderCheck) (calls : List Call) (t : ℕ) → Holds s calls → IsSound calls → (k : IsKnown calls t Directory)
    → number_eq (innermost calls) (Some t) ≡ true → length (path_of calls t) ≡ length s.directories.items - 1
innermost_place s calls t h sound k e =
    let at = placed calls t sound k in
    let last = sym (innermost_is calls) ∙ same_number (innermost calls) t e ∙ ap Some (sym at.token) in
    let whole : suc at.place ≡ length (open_directories calls) =
    nested_last (open_directories calls) 0 0 None at.place k.given_as sound.nested at.is last in
    let same = same_length s.directories.items (open_directories calls) h.nesting in
    let depth : length (path_of calls t) ≡ at.place = ap length (ap given_path k.is) ∙ at.depth in
    omega arith

pub late_at : (s : OrderCheck) (calls : List Call) (t : ℕ) → Holds s calls → IsSound calls → (k : IsKnown calls t Directory)
    → number_eq (innermost calls) (Some t) ≡ true → changed_late_in s.directories.items ≡ changed_late calls t
late_at s calls t h sound k e =
    let d = held s calls t h sound k in
    let place = innermost_place s calls t h sound k e in
    ap changed_late_of (ap (slice_get s.directories.items) (sym place) ∙ d.is)
    ∙ sym (h.directories (length (path_of calls t)) d.directory d.is).late ∙ ap (changed_late calls) d.token

-- ---- open files

pub files_at : (s : OrderCheck) (calls : List Call) → Holds s calls → IsSound calls
    → list_any is_unclosed_file s.tokens.items ≡ a_file_is_open calls
files_at s calls h sound = both_ways _ _ forth back
  where
    forth : list_any is_unclosed_file s.tokens.items ≡ true → a_file_is_open calls ≡ true
    forth e =
        let m = any_found is_unclosed_file s.tokens.items e in
        let parts = and_parts (kind_eq m.1.kind File) (not m.1.is_closed) m.3 in
        let is = h.tokens m.0 m.1 m.2 in
        at m.0 (given calls m.0) refl (is.kind File ∙ parts.0) (ap not is.closed ∙ parts.1)
      where
        at : (t : ℕ) (o : Option Given) → given calls t ≡ o → is_of_kind File (given calls t) ≡ true → not (is_closed calls t) ≡ true
            → a_file_is_open calls ≡ true
        at t None q kind unclosed = absurd (true≢false (sym (sym (ap (is_of_kind File) q) ∙ kind)))
        at t (Some g) q kind unclosed =
            any_passes_from_place (is_open_file calls) (all_given calls) t g q
            (ap (λ n. kind_eq g.kind File && not (is_closed calls n)) (sound.numbered t g q)
            ∙ ap (λ b. b && not (is_closed calls t)) (sym (ap (is_of_kind File) q) ∙ kind) ∙ unclosed)

    back : a_file_is_open calls ≡ true → list_any is_unclosed_file s.tokens.items ≡ true
    back e =
        let m = any_found (is_open_file calls) (all_given calls) e in
        let parts = and_parts (kind_eq m.1.kind File) (not (is_closed calls m.1.token)) m.3 in
        at m.0 m.1 m.2 parts.0 (ap (λ n. not (is_closed calls n)) (sym (sound.numbered m.0 m.1 m.2)) ∙ parts.1)
        (slice_get s.tokens.items m.0) refl
      where
        at : (t : ℕ) (g : Given) → given calls t ≡ Some g → kind_eq g.kind File ≡ true → not (is_closed calls t) ≡ true
            → (o : Option GivenToken) → slice_get s.tokens.items t ≡ o → list_any is_unclosed_file s.tokens.items ≡ true
        at t g q kind unclosed None k =
            let l = slice_get_within (all_given calls) t g q in
            let r = length-le_from_none s.tokens.items t k in
            absurd (omega (arith, l, r, h.count))
        at t g q kind unclosed (Some n) k =
            let is = h.tokens t n k in
            any_passes_from_place is_unclosed_file s.tokens.items t n k
            (ap (λ b. b && not n.is_closed) (sym (is.kind File) ∙ ap (is_of_kind File) q ∙ kind) ∙ ap not (sym is.closed) ∙ unclosed)
