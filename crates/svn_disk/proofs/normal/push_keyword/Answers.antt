use Rattle.std.proofs.Common.{◌++◌, replicate, length, ◌-◌, ◌<◌, ◌≡◌, true, rules, ap, ◌∙◌, arith}
use Rattle.std.specs.Prelude.{codes}
use Rattle.std.specs.List.{list_all}
use Rattle.svn_disk.specs.Signs.{no_end}
use Rattle.svn_disk.proofs.Rewriting.{kept_named, kept_blanked}
use Rattle.svn_disk.proofs.normal.push_keyword.Goals as goal

pub returns-then-is_fixed : goal.returns-then-is_fixed
returns-then-is_fixed c = λ sign.
    let line : list_all no_end c.args.keyword.now ≡ true = search rules in
    let long : 4 < length c.split_name.result.1.now = c.is_fixed.ensures (search rules) in (
      codes "$" ++ c.split_name.result.0.now ++ codes "::" ++ replicate (length c.split_name.result.1.now - 2) 32 ++ codes "$",
      kept_blanked c.args.keyword.now c.split_name.result.0.now c.split_name.result.1.now c.split_name.ensures.parts line sign long c.split_name.ensures.after,
      search rules,
    )

pub returns : goal.returns
returns c = λ sign.
    let line : list_all no_end c.args.keyword.now ≡ true = search rules in (
      codes "$" ++ c.split_name.result.0.now ++ codes "$",
      kept_named c.args.keyword.now c.split_name.result.0.now c.split_name.result.1.now c.split_name.ensures.parts line sign c.split_name.ensures.after,
      c.in_ok-push_name.ensures,
    )
