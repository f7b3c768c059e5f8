use Rattle.std.proofs.Common.{codes, ap}
use Rattle.svn_dump.specs.Written.{line, number_line}
use Rattle.svn_dump.proofs.Appends.{four_appended, same_piece}
use Rattle.svn_dump.proofs.writer.push_revision.Goals as goal

pub returns : goal.returns
returns c =
    let number = ap (number_line (codes "Revision-number")) c.rev.view_is in
    four_appended c.args.out.now.items (number_line (codes "Revision-number") c.args.rev) (line (codes "Prop-content-length") (codes "10"))
    (line (codes "Content-length") (codes "10")) (codes "\nPROPS-END\n\n") c.push_number.new.out.items c.push_line.new.out.items
    c.push_line-2.new.out.items c.extend_from_slice.new.self.items
    (same_piece c.args.out.now.items c.push_number.new.out.items (number_line (codes "Revision-number") c.rev.inside.0)
    (number_line (codes "Revision-number") c.args.rev) c.in_ok-push_number.ensures number) c.in_ok-push_line.ensures c.in_ok-push_line-2.ensures
    c.in_ok-extend_from_slice.ensures.items
