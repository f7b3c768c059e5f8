use Rattle.svn_types.proofs.PropNames.{prop_name_is_text}
use Rattle.svn_types.proofs.prop_name.PropName.from_checked.Goals as goal

pub from_utf8_unchecked-text-requires : goal.from_utf8_unchecked-text-requires
from_utf8_unchecked-text-requires c = prop_name_is_text c.args.bytes.now c.requires
