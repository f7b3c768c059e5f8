use Rattle.std.proofs.Common.{rules, ◌≡◌, sym, ◌∙◌}
use Rattle.std.specs.declared.cmp.Ordering.TheVariants.{Less, Equal, Greater}
use Rattle.svn_types.specs.Names.{name_cmp}
use Rattle.svn_types.proofs.NameLemmas.{Name, same_name, reversed}
use Rattle.svn_drive.proofs.NamesLeft.{behind_another}
use Rattle.svn_drive.proofs.child_names.NamesLeft.take_entry.Goals as goal

pub returns-in-Less : goal.returns-in-Less
returns-in-Less c =
    let n : Name = c.in-Some-Some.name.now in
    let m : Name = c.in-Some-Some.other.now in
    let order : name_cmp n m ≡ Less = sym c.cmp.ensures ∙ c.in-Less.is in
    let back : name_cmp m n ≡ Greater = reversed n m Less order in
    record {
      first = search (rules, back);
      named = search rules;
      source = search rules;
      target = search (rules, behind_another n m order);
      reported = search rules;
    }

pub returns-in-Equal : goal.returns-in-Equal
returns-in-Equal c =
    let n : Name = c.in-Some-Some.name.now in
    let m : Name = c.in-Some-Some.other.now in
    let order : name_cmp n m ≡ Equal = sym c.cmp.ensures ∙ c.in-Equal.is in
    let back : name_cmp m n ≡ Equal = reversed n m Equal order in
    let same : n ≡ m = same_name n m order in
    record {
      first = search (rules, back);
      named = search rules;
      source = search rules;
      target = search (rules, same);
      reported = search rules;
    }

pub returns-in-Greater : goal.returns-in-Greater
returns-in-Greater c =
    let n : Name = c.in-Some-Some.name.now in
    let m : Name = c.in-Some-Some.other.now in
    let back : name_cmp m n ≡ Less = reversed n m Greater (sym c.cmp.ensures ∙ c.in-Greater.is) in
    record {
      first = search (rules, back);
      named = search rules;
      source = search (rules, behind_another m n back);
      target = search rules;
      reported = search rules;
    }
