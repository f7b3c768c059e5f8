use Rattle.std.proofs.Common.{sym, ap, ◌∙◌, not}
use Rattle.std.specs.Option.{option_copied}
use Rattle.svn_lists.proofs.Options.{none_from_test}
use Rattle.svn_drive.proofs.NamesLeft.{nothing_left}
use Rattle.svn_drive.proofs.child_names.NamesLeft.take_first.Goals as goal

pub take_entry-requires : goal.take_entry-requires
take_entry-requires c =
    nothing_left c.args.self.now.reported
    (sym c.first_name.ensures ∙ ap option_copied (none_from_test c.first_name.result (c.is_none.ensures ∙ ap not c.if-is_none.true)))
