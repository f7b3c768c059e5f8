use Rattle.std.proofs.Common.{All, IsUtf8, subst}
use Rattle.svn_types.specs.Names.{IsName}
use Rattle.svn_wcrows.proofs.lawful.path_is_lawful.Goals as goal

pub returns : goal.returns
returns c = record {
  names = subst (All IsName) c.components.ensures.names c.names_are_lawful.ensures.names;
  texts = subst (All IsUtf8) c.components.ensures.names c.names_are_lawful.ensures.texts;
  bounded = c.components.ensures.bounded;
}
