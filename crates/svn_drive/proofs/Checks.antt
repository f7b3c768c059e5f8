-- What a check finds: the nodes of what is seen, and the first fault, entry by entry.
use Rattle.std.proofs.Common.{◌≡◌, ℕ, zero, suc, ◌<◌, List, [], ◌∷◌, ◌++◌, ◌+◌, length, length-append, drop, refl, sym, ◌∙◌, ap, arith}
use Rattle.std.specs.Prelude.{false, Option, Some, None, slice_get, option_and_then, cond}
use Rattle.std.specs.Option.{option_or}
use Rattle.svn_types.proofs.NameLemmas.{Name}
use Rattle.svn_types.specs.Names.{Path}
use Rattle.svn_types.specs.Paths.{parent}
use Rattle.svn_repo.specs.History.{History, node_at, walk, look}
use Rattle.svn_report.specs.declared.entry.ReportEntry.{ReportEntry}
use Rattle.svn_report.specs.Reports.{ReportView}
use Rattle.svn_model.specs.declared.report_fault.ReportFault.{ReportFault}
use Rattle.svn_model.specs.declared.report_fault.ReportFault.TheVariants.{NoEntries, NoSuchRevision, NoNode, ParentNotDir, Memory}
use Rattle.svn_model.specs.declared.report_fault.ReportFault.TheVariants.{RootNotDir}
use Rattle.svn_model.specs.Sources.{Reported, reported, reported_child, source, source_at, is_hidden, governing_revision}
use Rattle.svn_model.specs.Checks.{first_fault, first_fault_from}
use Rattle.svn_drive.specs.Checking.{IsCheckAnswer, fault_of_entry, fault_at}
use Rattle.svn_repo.proofs.Walking.{look-append}
use Rattle.svn_model.proofs.Children.{reported-child, reported-path, parent-child}

-- ---- below what is found at a path

pub below_none : (h : History) (rev : ℕ) (p q : Path) → look h rev p ≡ None → None ≡ look h rev (p ++ q)
below_none h rev p q e = sym (look-append h rev p q ∙ ap (option_and_then (λ m. walk (node_at h) m q)) e)

pub below_found : (h : History) (rev : ℕ) (p q : Path) (n : ℕ) → look h rev p ≡ Some n → walk (node_at h) n q ≡ look h rev (p ++ q)
below_found h rev p q n e = sym (look-append h rev p q ∙ ap (option_and_then (λ m. walk (node_at h) m q)) e)

-- ---- what is seen

pub shown : (h : History) (s : Reported) → is_hidden s ≡ false → look h (governing_revision s) s.repos_path ≡ source h s
shown h s e = ap (λ b. cond b None (look h (governing_revision s) s.repos_path)) (sym e)

pub child_source : (h : History) (r : ReportView) (names p : Path) (name : Name) (above here : Reported) → p ≡ names ++ name ∷ []
    → above ≡ reported r names → here ≡ reported_child r above name → source h here ≡ source_at h r p
child_source h r names p name above here whole a b =
    ap (source h) (b ∙ ap (λ s. reported_child r s name) a ∙ sym (reported-child r names name) ∙ ap (reported r) (sym whole))

pub parent_source : (h : History) (r : ReportView) (names p : Path) (name : Name) (above : Reported) → p ≡ names ++ name ∷ []
    → above ≡ reported r names → source h above ≡ source_at h r (parent p)
parent_source h r names p name above whole a = ap (source h) (a ∙ ap (reported r) (sym (ap parent whole ∙ parent-child names name)))

-- the path of what is seen one name above
pub seen_above : (r : ReportView) (names p : Path) (name : Name) (above : Reported) → p ≡ names ++ name ∷ [] → above ≡ reported r names
    → p ≡ above.path ++ name ∷ []
seen_above r names p name above whole a =
    whole ∙ ap (λ (q : Path). q ++ name ∷ []) (sym (ap (λ (s : Reported). s.path) a ∙ reported-path r names))

pub one_longer : (p q : Path) (name : Name) → p ≡ q ++ name ∷ [] → length p ≡ length q + 1
one_longer p q name whole = ap length whole ∙ length-append q (name ∷ [])

-- ---- entry by entry

faults_from : (h : History) (r : ReportView) (es : List (Path × ReportEntry)) (i k : ℕ) → i < length es
    → first_fault_from h r k (drop i es)
    ≡ option_or (fault_of_entry h r k (slice_get es i)) (first_fault_from h r (k + 1) (drop (suc i) es))
faults_from h r [] i k lt = absurd (omega arith)
faults_from h r (e ∷ es) zero k lt = refl
faults_from h r (e ∷ es) (suc i) k lt = faults_from h r es i k (omega arith)

step : (h : History) (r : ReportView) (i j : ℕ) → j ≡ suc i → i < length r.entries
    → first_fault_from h r i (drop i r.entries) ≡ first_fault h r
    → option_or (fault_at h r i) (first_fault_from h r (i + 1) (drop j r.entries)) ≡ first_fault h r
step h r i j next inside inv =
    ap (λ n. option_or (fault_at h r i) (first_fault_from h r (i + 1) (drop n r.entries))) next ∙ sym (faults_from h r r.entries i i inside)
    ∙ inv

pub no_fault : (h : History) (r : ReportView) (i j : ℕ) → j ≡ suc i → i < length r.entries
    → first_fault_from h r i (drop i r.entries) ≡ first_fault h r → fault_at h r i ≡ None
    → first_fault_from h r (i + 1) (drop j r.entries) ≡ first_fault h r
no_fault h r i j next inside inv none =
    ap (λ o. option_or o (first_fault_from h r (i + 1) (drop j r.entries))) (sym none) ∙ step h r i j next inside inv

pub found_fault : (h : History) (r : ReportView) (i : ℕ) (e : ReportFault) → i < length r.entries
    → first_fault_from h r i (drop i r.entries) ≡ first_fault h r → IsCheckAnswer (fault_at h r i) e → IsCheckAnswer (first_fault h r) e
found_fault h r i e inside inv = by e
  where
    same : (f : ReportFault) → fault_at h r i ≡ Some f → first_fault h r ≡ Some f
    same f is = sym (step h r i (suc i) refl inside inv) ∙ ap (λ o. option_or o (first_fault_from h r (i + 1) (drop (suc i) r.entries))) is

    by : (f : ReportFault) → IsCheckAnswer (fault_at h r i) f → IsCheckAnswer (first_fault h r) f
    by NoEntries is = same NoEntries is
    by (NoSuchRevision n) is = same (NoSuchRevision n) is
    by (NoNode n) is = same (NoNode n) is
    by (ParentNotDir n) is = same (ParentNotDir n) is
    by Memory is = tt
    by RootNotDir is = same RootNotDir is

-- a fault that is found is the result
pub is_answer : (o : Option ReportFault) (e : ReportFault) → o ≡ Some e → IsCheckAnswer o e
is_answer o NoEntries is = is
is_answer o (NoSuchRevision n) is = is
is_answer o (NoNode n) is = is
is_answer o (ParentNotDir n) is = is
is_answer o Memory is = tt
is_answer o RootNotDir is = is
