-- What is printed of the faults of copies, where the faults that they hold have known texts: those come as functions, which give None where a text isn't
-- known.
--     examiner_text, copy_fault_text, topic_text, tell_text      of a fault
use Rattle.std.specs.Prelude.{◌++◌, Some, codes, if◌then◌else◌}
use Rattle.std.specs.Fmt.{decimal}
use Rattle.svn_model.specs.declared.drive_fault.DriveFault.{DriveFault}
use Rattle.svn_audit.specs.Reasons.{untrue_text}
use Rattle.svn_disk_audit.specs.FaultTexts.{TextOf}
use Rattle.svn_disk_audit.specs.declared.fault.AuditFault.{AuditFault}
use Rattle.svn_disk_audit.specs.declared.repository.RepositoryFault.{RepositoryFault}
use Rattle.svn_answers.specs.Gone.{is_no_root}
use Rattle.svn_answers.specs.declared.examination.ExaminerFault.{ExaminerFault}
use Rattle.svn_answers.specs.declared.examination.ExaminerFault.TheVariants.{Repository, Copy as OfCopy}
use Rattle.svn_answers.specs.declared.fault.CopyFault.{CopyFault}
use Rattle.svn_answers.specs.declared.fault.CopyFault.TheVariants.{Refused, Audit, Early, Untold}
use Rattle.svn_answers.specs.declared.fault.TellFault.{TellFault}
use Rattle.svn_answers.specs.declared.fault.TellFault.TheVariants.{Copy, Untrue, Topic}
use Rattle.svn_answers.specs.declared.topic.TopicFault.{TopicFault}
use Rattle.svn_answers.specs.declared.topic.TopicFault.TheVariants.{Drive, Write, Memory}

abbrev pub examiner_text : {F : Type 0} → TextOf RepositoryFault → TextOf F → TextOf (ExaminerFault F)
examiner_text of_repository of_copy (Repository fault) = of_repository fault
examiner_text of_repository of_copy (OfCopy fault) = of_copy fault

abbrev pub copy_fault_text : {F : Type 0} → TextOf F → TextOf (AuditFault (ExaminerFault F)) → TextOf (CopyFault F)
copy_fault_text of_copy of_audit (Refused fault) = of_copy fault
copy_fault_text of_copy of_audit (Audit fault) = of_audit fault
copy_fault_text of_copy of_audit (Early first) =
    Some (codes "the dump begins with r" ++ decimal first ++ codes ", and the copy has nodes of revisions before")
copy_fault_text of_copy of_audit (Untold first) =
    Some (codes "the dump begins with r" ++ decimal first ++ codes ", and may leave out properties of the root that the copy has")

-- that nothing is where the root would be, Subversion's client says in other words (E160005)
abbrev pub topic_text : TextOf DriveFault → TextOf TopicFault
topic_text of_drive (Drive fault) = if is_no_root fault then Some (codes "the target path does not exist") else of_drive fault
topic_text of_drive Write = Some (codes "write fault")
topic_text of_drive Memory = Some (codes "out of memory")

abbrev pub tell_text : {F : Type 0} → TextOf (CopyFault F) → TextOf TopicFault → TextOf (TellFault F)
tell_text of_copy of_topic (Copy fault) = of_copy fault
tell_text of_copy of_topic (Untrue untrue) = Some (codes "untrue: " ++ untrue_text untrue ++ codes " (see --allow-untrue)")
tell_text of_copy of_topic (Topic fault) = of_topic fault
