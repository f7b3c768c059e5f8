-- The fault of an update whose target has nothing at the path of the copy.
--     is_no_root fault, is_gone fault      it is that one, of a drive and of what is asked of a copy
use Rattle.std.specs.Prelude.{Bool, true, false}
use Rattle.svn_model.specs.declared.drive_fault.DriveFault.{DriveFault}
use Rattle.svn_model.specs.declared.drive_fault.DriveFault.TheVariants.{NoSuchTarget, Memory as NoMemory, Editor, Full, NoRoot, OtherRoot}
use Rattle.svn_answers.specs.declared.topic.TopicFault.{TopicFault}
use Rattle.svn_answers.specs.declared.topic.TopicFault.TheVariants.{Drive, Write, Memory}

abbrev pub is_no_root : DriveFault → Bool
is_no_root NoSuchTarget = false
is_no_root NoMemory = false
is_no_root (Editor fault) = false
is_no_root Full = false
is_no_root NoRoot = true
is_no_root OtherRoot = false

abbrev pub is_gone : TopicFault → Bool
is_gone (Drive fault) = is_no_root fault
is_gone Write = false
is_gone Memory = false
