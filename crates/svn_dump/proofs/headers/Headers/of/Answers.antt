use Rattle.std.proofs.Common.{ap, ◌∙◌, refl}
use Rattle.svn_dump.specs.GivenHeaders.{all_given}
use Rattle.svn_dump.specs.Headers.{values_of}
use Rattle.svn_dump.specs.HeaderNames.{name_of}
use Rattle.svn_dump.proofs.HeaderLemmas.{no_line, first_line, well_formed_more, ill_formed_more}
use Rattle.svn_dump.proofs.headers.Headers.of.Goals as goal

pub lines-init : goal.lines-init
lines-init c = (no_line c.args.block.now, refl)

pub lines-preserved-then-well_formed : goal.lines-preserved-then-well_formed
lines-preserved-then-well_formed c = (
  λ name.
      ap (λ found. all_given found (values_of (name_of name) c.in-Some.after.now)) (c.take_line-is_header.ensures.given name)
      ∙ first_line _ (name_of name) c.lines.rest.now c.in-Some.line.now c.in-Some.after.now c.in-Some.ensures.parts ∙ c.lines.invariant.0 name,
  well_formed_more c.lines.well_formed c.take_line-is_header.result c.lines.rest.now c.in-Some.line.now c.in-Some.after.now _
      c.in-Some.ensures.parts c.lines.invariant.1 c.if-well_formed.true c.take_line-is_header.ensures.header,
)

pub lines-preserved : goal.lines-preserved
lines-preserved c = (
  λ name.
      ap (λ found. all_given found (values_of (name_of name) c.in-Some.after.now)) (c.take_line-is_header.ensures.given name)
      ∙ first_line _ (name_of name) c.lines.rest.now c.in-Some.line.now c.in-Some.after.now c.in-Some.ensures.parts ∙ c.lines.invariant.0 name,
  ill_formed_more c.lines.well_formed c.lines.rest.now c.in-Some.after.now _ c.lines.invariant.1 c.if-well_formed.false,
)
