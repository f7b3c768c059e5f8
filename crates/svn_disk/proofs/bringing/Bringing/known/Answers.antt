use Rattle.std.proofs.Common.{◌≡◌, true, List, subst}
use Rattle.svn_wcdb.specs.declared.table.TableRow.{TableRow}
use Rattle.svn_disk.specs.Spared.{texts_in, texts_of, texts_of_either}
use Rattle.svn_disk.specs.Finding.{has_word}
use Rattle.svn_disk.proofs.KnownWords.{way, or_first, or_last}
use Rattle.svn_disk.proofs.bringing.Bringing.known.Goals as goal

pub loop-item-init : goal.loop-item-init
loop-item-init c = λ t has.
    or_first (texts_in c.args.self.now.existing.now.tables.pristine.items t) (texts_of c.args.self.now.wanted.now.copy t)
    (subst (λ (xs : List TableRow). texts_in xs t ≡ true) c.deref.ensures.value (c.in_ok-known.ensures t has))

pub loop-item-preserved : goal.loop-item-preserved
loop-item-preserved c = λ t has.
    let rows = c.args.self.now.existing.now.tables.pristine.items in
    let copy = c.args.self.now.wanted.now.copy in
    way (texts_of_either rows copy t ≡ true) (texts_of copy t) (has_word c.loop-item.known t) (λ h. or_last (texts_in rows t) (texts_of copy t) h)
    (c.loop-item.invariant t) (c.in_ok-add_coming.ensures t has)
