use Rattle.std.proofs.Common.{◌≡◌, true, ap, subst, ◌∙◌}
use Rattle.svn_types.specs.Names.{Path}
use Rattle.svn_types.specs.PathKeys.{path_key, is_plain_path}
use Rattle.svn_types.proofs.Cuts.{cut_within, cut_key, cut_text}
use Rattle.svn_types.proofs.PathKeys.{plain_cut}
use Rattle.svn_types.proofs.path_parts.PathParts.key_behind.Goals as goal

pub split_at-requires : goal.split_at-requires
split_at-requires c =
    cut_within c.args.self.now c.args.cut c.requires c.as_bytes.result.now
    (c.as_bytes.ensures.value ∙ c.key.ensures.key ∙ ap path_key c.self.view_is)

pub from_utf8_unchecked-requires : goal.from_utf8_unchecked-requires
from_utf8_unchecked-requires c =
    rw c.split_at.ensures.back
    (cut_text c.args.self.now c.args.cut c.requires c.as_bytes.result.now
    (c.as_bytes.ensures.value ∙ c.key.ensures.key ∙ ap path_key c.self.view_is) c.as_bytes.ensures.utf8)

pub returns-clause-key : goal.returns-clause-key
returns-clause-key c =
    c.from_utf8_unchecked.ensures ∙ c.split_at.ensures.back
    ∙ cut_key c.args.self.now c.args.cut c.requires c.as_bytes.result.now
    (c.as_bytes.ensures.value ∙ c.key.ensures.key ∙ ap path_key c.self.view_is)

pub returns-clause-plain : goal.returns-clause-plain
returns-clause-plain c =
    plain_cut c.args.cut.names c.args.self.now
    (subst (λ (p : Path). is_plain_path p ≡ true) c.self.view_is c.key.ensures.plain)
