-- What was read of the pristine texts of a working copy.
--     HasRead store keeper      there are texts of all names that a keeper has, and each is kept as the word that it has for it
use Rattle.std.specs.Prelude.{All}
use Rattle.svn_disk_audit.specs.declared.keeping.Keeper.{Keeper}
use Rattle.svn_disk_audit.specs.Pristine.{Store, HasText, HasKept}

abbrev pub HasRead : Store → Keeper → Type 0
HasRead store keeper =
    All (λ v. HasText store v.items) keeper.names.keys × All (λ e. HasKept store keeper.reader.texts e.0.items e.1) keeper.words.entries
