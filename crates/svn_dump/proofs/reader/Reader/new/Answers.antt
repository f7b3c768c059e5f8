use Rattle.std.proofs.Common.{◌≡◌, ◌-◌, ap, ◌∙◌}
use Rattle.std.specs.Io.Buffered.{reader_remaining}
use Rattle.svn_dump.specs.Readers.{headers_len}
use Rattle.svn_dump.proofs.Counting.{shows_headers, shows_from_none}
use Rattle.svn_dump.proofs.reader.Reader.new.Goals as goal

pub returns-clause-shown : goal.returns-clause-shown
returns-clause-shown g c =
    let before = c.in_ok-source.source in
    let source = c.read_block.new.source in
    let block = c.in_ok-block.block in
    let given = reader_remaining g.R.Read.remaining before.input in
    let len : c.headers_len.result ≡ headers_len block.items = c.headers_len.ensures ∙ ap headers_len c.deref.ensures.value in
    let begun : c.saturating_sub-begun.result ≡ source.taken - headers_len block.items =
    c.saturating_sub-begun.ensures ∙ (λ i. c.taken.ensures i - len i) in
    shows_from_none c.args.limits before.taken c.saturating_sub-begun.result given (g.R.Read.remaining c.args.input) block.items
    c.in_ok-source.ensures.none_taken c.in_ok-source.ensures.bytes
    (shows_headers (λ v. v.items) c.args.limits before.taken source.taken c.saturating_sub-begun.result given
    (reader_remaining g.R.Read.remaining source.input) block c.in_ok-block.ensures.headers c.in_ok-block.ensures.counted begun)
