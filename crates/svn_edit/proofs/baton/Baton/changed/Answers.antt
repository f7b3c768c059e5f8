use Rattle.std.proofs.Common.{◌≡◌, false, sym, ap, ◌∙◌, rules}
use Rattle.std.specs.List.{list_any}
use Rattle.svn_types.specs.Props.{with_changes}
use Rattle.svn_edit.specs.Noted.{is_change}
use Rattle.svn_edit.proofs.Saying.{no_change_said}
use Rattle.svn_edit.proofs.baton.Baton.changed.Goals as goal

pub returns-then-not-has_change : goal.returns-then-not-has_change
returns-then-not-has_change c =
    let none : list_any is_change c.args.self.now.notes.items ≡ false = search rules in
    λ said s. sym (ap (with_changes c.args.props.now) (no_change_said said (sym (ap (list_any is_change) s.notes) ∙ none)))
