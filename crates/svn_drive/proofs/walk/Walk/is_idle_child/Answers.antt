use Rattle.std.proofs.Common.{sym, ◌∙◌, ap, inl, not}
use Rattle.std.specs.Option.{option_copied}
use Rattle.svn_lists.proofs.Options.{none_from_test}
use Rattle.svn_model.specs.Follow.{Followed}
use Rattle.svn_drive.specs.Walking.{request_of}
use Rattle.svn_drive.proofs.Idle.{idle_new}
use Rattle.svn_drive.proofs.walk.Walk.is_idle_child.Goals as goal

pub returns-then-is_none-clause-idle : goal.returns-then-is_none-clause-idle
returns-then-is_none-clause-idle c = λ t.
    let out = sym (ap (λ (f : Followed). f.is_kept) c.requires.at.followed) ∙ c.if-place.false in
    inl
    (idle_new (request_of c.args.self.now) c.args.place.now.here.path c.args.below.now.name.now c.args.place.now.target out
    c.requires.at.target
    (sym c.requires.below.target
    ∙ ap option_copied (none_from_test c.args.below.now.target (c.is_none.ensures ∙ ap not c.if-is_none.true))))
