-- What is printed of faults, where the texts of what they hold are known: those come as functions, which give None where a text isn't known.
--     repository_text, pristine_text, pristine_refusal_text, audit_text      of a fault
use Rattle.std.specs.Prelude.{ℕ, List, ◌++◌, Option, Some, codes}
use Rattle.std.specs.Fmt.{◌++?◌}
use Rattle.std.specs.declared.io.Error.{Error}
use Rattle.svn_model.specs.declared.wc_fault.WcFault.{WcFault}
use Rattle.svn_model.specs.declared.wc_fault.WcFault.TheVariants.{BadRoot}
use Rattle.svn_editor.specs.Words.{word, path_word}
use Rattle.svn_wcdb.specs.declared.refusal.Refusal.{Refusal}
use Rattle.svn_disk_audit.specs.declared.fault.AuditFault.{AuditFault}
use Rattle.svn_disk_audit.specs.declared.fault.AuditFault.TheVariants as audits
use Rattle.svn_disk_audit.specs.declared.fault.PristineFault.{PristineFault}
use Rattle.svn_disk_audit.specs.declared.fault.PristineFault.TheVariants.{WrongSha1, Empty, Read}
use Rattle.svn_disk_audit.specs.declared.fault.PristineRefusal.{PristineRefusal}
use Rattle.svn_disk_audit.specs.declared.repository.RepositoryFault.{RepositoryFault}
use Rattle.svn_disk_audit.specs.declared.repository.RepositoryFault.TheVariants.{Other, Memory}

-- the text of a value, where it is known
abbrev pub TextOf : Type 0 → Type 0
TextOf X = X → Option (List ℕ)

abbrev pub repository_text : RepositoryFault → List ℕ
repository_text (Other copy wanted) = codes "the working copy is of repository " ++ word copy ++ codes ", not of " ++ word wanted
repository_text Memory = codes "out of memory"

abbrev pub pristine_text : TextOf Error → TextOf PristineFault
pristine_text of_error WrongSha1 = Some (codes "the file has another SHA-1 checksum")
pristine_text of_error Empty = Some (codes "the file is empty")
pristine_text of_error (Read error) = of_error error

abbrev pub pristine_refusal_text : TextOf PristineFault → TextOf PristineRefusal
pristine_refusal_text of_fault refusal =
    Some (path_word refusal.path ++ codes ": pristine text " ++ word refusal.stand_in ++ codes ": ") ++? of_fault refusal.fault

abbrev pub audit_text : {F : Type 0} → TextOf Refusal → TextOf F → TextOf PristineRefusal → TextOf WcFault → TextOf (AuditFault F)
audit_text of_refusal of_examiner of_pristine of_copy (audits.Database refusal) = of_refusal refusal
audit_text of_refusal of_examiner of_pristine of_copy (audits.Examiner fault) = of_examiner fault
audit_text of_refusal of_examiner of_pristine of_copy (audits.Pristine refusal) = of_pristine refusal
audit_text of_refusal of_examiner of_pristine of_copy (audits.Copy BadRoot) = Some (codes "no directory of the working copy")
audit_text of_refusal of_examiner of_pristine of_copy (audits.Copy fault) = of_copy fault
audit_text of_refusal of_examiner of_pristine of_copy audits.Memory = Some (codes "out of memory")
