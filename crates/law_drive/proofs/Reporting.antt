-- What a report says of a path, and what is at a path by what is at its parent.
use Rattle.std.proofs.Common.{◌≡◌, ℕ, Bool, true, false, ◌&&◌, ◌||◌, not, refl, sym, ◌∙◌, ap, subst, true≢false}
use Rattle.std.specs.Prelude.{Option, Some, None, cond, is_some}
use Rattle.std.specs.Option.{option_or}
use Rattle.std.proofs.lemmas.Bool.{not-true}
use Rattle.svn_types.specs.Names.{Path}
use Rattle.svn_types.specs.Paths.{child}
use Rattle.svn_types.specs.Pairs.{value_of}
use Rattle.svn_types.proofs.NameLemmas.{Name}
use Rattle.svn_types.proofs.PathLemmas.{path_ind}
use Rattle.svn_repo.specs.History.{History, look}
use Rattle.svn_repo.specs.Readings.{entries_of}
use Rattle.svn_report.specs.declared.entry.ReportEntry.{ReportEntry}
use Rattle.svn_report.specs.Reports.{entry_at, ReportView}
use Rattle.svn_model.specs.Sources.{Reported, reported, revision_of, starts_empty, is_set_or_link, linked_or, is_hidden, source}
use Rattle.svn_model.specs.Sources.{governing_revision}
use Rattle.svn_model.proofs.Children.{entry_below, look-child, reported-child, reported-path}

-- what the report says of a child, by what it says of the parent
pub record IsChildOf (above here : Reported) (name : Name) : Type 0 where
  pub governing : here.governing ≡ option_or here.own above.governing
  pub repos_path : here.repos_path ≡ linked_or here.own (child above.repos_path name)

-- an entry at the path itself governs it
abbrev pub OwnGoverns : Reported → Type 0
OwnGoverns s = (e : ReportEntry) → s.own ≡ Some e → s.governing ≡ Some e

pub is_child : (r : ReportView) (p : Path) (name : Name) → IsChildOf (reported r p) (reported r (child p name)) name
is_child r p name =
    subst (λ s. IsChildOf (reported r p) s name) (sym (reported-child r p name)) (record { governing = refl; repos_path = refl })

own_governs_child : (above here : Reported) (name : Name) → IsChildOf above here name → OwnGoverns here
own_governs_child above here name c e h = c.governing ∙ ap (λ o. option_or o above.governing) h

pub own_governs : (r : ReportView) (p : Path) → OwnGoverns (reported r p)
own_governs r =
    path_ind (λ p. OwnGoverns (reported r p)) (λ e h. h)
    (λ p name ih. own_governs_child (reported r p) (reported r (child p name)) name (is_child r p name))

pub own-is : (r : ReportView) (p : Path) → (reported r p).own ≡ entry_at r.entries p
own-is r = path_ind (λ p. (reported r p).own ≡ entry_at r.entries p) refl
    (λ p name ih. ap (λ (s : Reported). s.own) (reported-child r p name) ∙ ap (λ q. entry_at r.entries (child q name)) (reported-path r p))

-- where no entry is at the path, and the parent's entry isn't one that starts empty
pub open_above : (s : Reported) → OwnGoverns s → (is_some s.own || not (starts_empty s.governing)) ≡ true → starts_empty s.own ≡ false
    → starts_empty s.governing ≡ false
open_above s g h e = by s.own refl
  where
    by : (o : Option ReportEntry) → s.own ≡ o → starts_empty s.governing ≡ false
    by None q = not-true (starts_empty s.governing) (subst (λ o. (is_some o || not (starts_empty s.governing)) ≡ true) q h)
    by (Some x) q = ap starts_empty (g x q) ∙ sym (ap starts_empty q) ∙ e

-- nothing is below a node that isn't there, or that is hidden
pub source_below : (h : History) (above here : Reported) (name : Name) → IsChildOf above here name → here.own ≡ None
    → entry_below h (look h (revision_of above.governing) above.repos_path) name ≡ None → source h here ≡ None
source_below h above here name c o n = by (is_hidden here)
  where
    ge : here.governing ≡ above.governing
    ge = c.governing ∙ ap (λ x. option_or x above.governing) o

    at_path : look h (governing_revision here) here.repos_path ≡ None
    at_path = ap (λ r. look h r here.repos_path) (ap revision_of ge)
        ∙ ap (look h (revision_of above.governing)) (c.repos_path ∙ ap (λ x. linked_or x (child above.repos_path name)) o)
        ∙ look-child h (revision_of above.governing) above.repos_path name ∙ n

    by : (b : Bool) → cond b None (look h (governing_revision here) here.repos_path) ≡ None
    by true = refl
    by false = at_path

-- an entry above that starts empty hides the path
pub hidden_below : (h : History) (above here : Reported) (name : Name) → IsChildOf above here name → here.own ≡ None
    → starts_empty above.governing ≡ true → source h here ≡ None
hidden_below h above here name c o e =
    ap (λ b. cond b None (look h (governing_revision here) here.repos_path)) (by (is_set_or_link here.governing))
  where
    ge : here.governing ≡ above.governing
    ge = c.governing ∙ ap (λ x. option_or x above.governing) o

    shut : (is_some here.own || not (starts_empty here.governing)) ≡ false
    shut = ap (λ x. is_some x || not (starts_empty here.governing)) o ∙ ap (λ x. not (starts_empty x)) ge ∙ ap not e

    by : (k : Bool) → not (k && (is_some here.own || not (starts_empty here.governing))) ≡ true
    by true = ap not shut
    by false = refl

-- nothing at the parent, nothing at a child without an entry of its own
pub source_inherits : (h : History) (above here : Reported) (name : Name) → IsChildOf above here name → here.own ≡ None
    → source h above ≡ None → source h here ≡ None
source_inherits h above here name c o n = by (is_set_or_link above.governing) (starts_empty above.governing) refl refl
  where
    ge : here.governing ≡ above.governing
    ge = c.governing ∙ ap (λ x. option_or x above.governing) o

    open_one : (x : Bool) → not (true && (x || true)) ≡ false
    open_one true = refl
    open_one false = refl

    by : (k e : Bool) → is_set_or_link above.governing ≡ k → starts_empty above.governing ≡ e → source h here ≡ None
    by k true p q = hidden_below h above here name c o q
    by false false p q =
        ap
        (λ x. cond (not (x && (is_some here.own || not (starts_empty here.governing)))) None
        (look h (governing_revision here) here.repos_path))
        (ap is_set_or_link ge ∙ p)
    by true false p q =
        let up : is_hidden above ≡ false =
        ap (λ x. not (x && (is_some above.own || not (starts_empty above.governing)))) p
        ∙ ap (λ x. not (true && (is_some above.own || not x))) q ∙ open_one (is_some above.own) in
        let none : look h (governing_revision above) above.repos_path ≡ None =
        sym (ap (λ b. cond b None (look h (governing_revision above) above.repos_path)) up) ∙ n in
        source_below h above here name c o (ap (λ x. entry_below h x name) none)

-- ---- sources

pub shown_source : (h : History) (s : Reported) (n : ℕ) → source h s ≡ Some n
    → (is_hidden s ≡ false) × (look h (governing_revision s) s.repos_path ≡ Some n)
shown_source h s n e = by (is_hidden s) refl e
  where
    by : (b : Bool) → is_hidden s ≡ b → cond b None (look h (governing_revision s) s.repos_path) ≡ Some n
        → (is_hidden s ≡ false) × (look h (governing_revision s) s.repos_path ≡ Some n)
    by true q k = absurd (true≢false (ap is_some (sym k)))
    by false q k = (q, k)

pub source-open : (h : History) (above here : Reported) (name : Name) (n : ℕ) → IsChildOf above here name → here.own ≡ None
    → source h above ≡ Some n → starts_empty above.governing ≡ false
    → source h here ≡ value_of (entries_of h n) name
source-open h above here name n c o s e =
    let up = shown_source h above n s in
    let ge : here.governing ≡ above.governing = c.governing ∙ ap (λ x. option_or x above.governing) o in
    let seen : is_hidden here ≡ false =
    ap (λ x. not (is_set_or_link here.governing && (is_some x || not (starts_empty here.governing)))) o
    ∙ ap (λ g. not (is_set_or_link g && not (starts_empty g))) ge
    ∙ ap (λ b. not (is_set_or_link above.governing && not b)) e
    ∙ open_set (is_set_or_link above.governing) (is_some above.own || not (starts_empty above.governing)) up.0 in
    ap (λ b. cond b None (look h (governing_revision here) here.repos_path)) seen
    ∙ ap (λ r. look h r here.repos_path) (ap revision_of ge)
    ∙ ap (look h (revision_of above.governing)) (c.repos_path ∙ ap (λ x. linked_or x (child above.repos_path name)) o)
    ∙ look-child h (revision_of above.governing) above.repos_path name
    ∙ ap (λ x. entry_below h x name) up.1
  where
    open_set : (k v : Bool) → not (k && v) ≡ false → not (k && true) ≡ false
    open_set true v q = refl
    open_set false v q = q
