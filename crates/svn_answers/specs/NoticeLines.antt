-- How notices are printed, a line each.
--     is_out_of_memory lacks fault      an allocation failed: then it isn't a fault of the copy
--     notice_line lacks text word notice      the line of a notice, where the text of its fault is known
--     notice_lines lacks text heard      the lines of notices, where each is known
--     WritesText failed before failed' after text      unless a line couldn't be written, the text was, where it is known
use Rattle.std.specs.Prelude.{◌≡◌, ℕ, Bool, true, false, List, [], ◌∷◌, ◌++◌, Option, Some, option_map, IfSome, codes, if◌then◌else◌}
use Rattle.std.specs.Fmt.{◌++?◌}
use Rattle.std.specs.Io.KnownBytes.{Appends}
use Rattle.svn_disk_audit.specs.FaultTexts.{TextOf}
use Rattle.svn_disk_audit.specs.declared.fault.AuditFault.TheVariants as audits
use Rattle.svn_disk_audit.specs.declared.repository.RepositoryFault.TheVariants as repositories
use Rattle.svn_answers.specs.declared.examination.ExaminerFault.TheVariants.{Repository, Copy as OfCopy}
use Rattle.svn_answers.specs.declared.fault.CopyFault.{CopyFault}
use Rattle.svn_answers.specs.declared.fault.CopyFault.TheVariants.{Refused, Audit, Early, Untold}
use Rattle.svn_answers.specs.declared.fault.TellFault.{TellFault}
use Rattle.svn_answers.specs.declared.fault.TellFault.TheVariants.{Copy, Topic}
use Rattle.svn_answers.specs.declared.topic.TopicFault.TheVariants.{Memory}
use Rattle.svn_answers.specs.declared.notices.Notice.{Notice}
use Rattle.svn_answers.specs.declared.notices.Notice.TheVariants.{PassedOver, Unanswered}
use Rattle.svn_answers.specs.Lines.{source_text}
use Rattle.svn_answers.specs.Notices.{Heard}
use Rattle.svn_answers.specs.PassedOver.{passed_over_text}
use Rattle.svn_answers.specs.Topics.{line}

abbrev pub is_copy_memory : {F : Type 0} → (F → Bool) → CopyFault F → Bool
is_copy_memory lacks (Refused fault) = lacks fault
is_copy_memory lacks (Audit audits.Memory) = true
is_copy_memory lacks (Audit (audits.Examiner (OfCopy fault))) = lacks fault
is_copy_memory lacks (Audit (audits.Examiner (Repository repositories.Memory))) = true
is_copy_memory lacks (Audit _) = false
is_copy_memory lacks (Early first) = false
is_copy_memory lacks (Untold first) = false

abbrev pub is_out_of_memory : {F : Type 0} → (F → Bool) → TellFault F → Bool
is_out_of_memory lacks (Copy fault) = is_copy_memory lacks fault
is_out_of_memory lacks (Topic Memory) = true
is_out_of_memory lacks _ = false

abbrev pub passed_over_line : List ℕ → List ℕ → List ℕ
passed_over_line word text = line (codes "svnaudit: " ++ source_text word ++ codes ": passed over: " ++ text)

abbrev pub fault_line : List ℕ → List ℕ → List ℕ
fault_line word text = line (codes "svnaudit: " ++ source_text word ++ codes ": " ++ text)

abbrev pub memory_line : List ℕ
memory_line = line (codes "svnaudit: out of memory")

abbrev pub notice_line : {F : Type 0} → (F → Bool) → TextOf (TellFault F) → List ℕ → Notice F → Option (List ℕ)
notice_line lacks text word (PassedOver notes) = Some (passed_over_line word (passed_over_text notes))
notice_line lacks text word (Unanswered fault) =
    if is_out_of_memory lacks fault then Some memory_line else option_map (fault_line word) (text fault)

abbrev pub notice_lines : {F : Type 0} → (F → Bool) → TextOf (TellFault F) → Heard F → Option (List ℕ)
notice_lines lacks text [] = Some []
notice_lines lacks text (x ∷ heard) = notice_line lacks text x.0 x.1 ++? notice_lines lacks text heard

abbrev pub WritesText : Bool → Option (List ℕ) → Bool → Option (List ℕ) → Option (List ℕ) → Type 0
WritesText failed before failed_after after text = failed_after ≡ false → (failed ≡ false) × IfSome text (Appends before after)
