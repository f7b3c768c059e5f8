use Rattle.std.proofs.Common.{◌≡◌, ◌-◌, Bool, ap, ◌∙◌}
use Rattle.std.proofs.lemmas.Result.{err_from_is_err_and}
use Rattle.svn_dump.specs.Readers.{left_in, headers_len}
use Rattle.svn_dump.proofs.Counting.{shows_headers, shows_none}
use Rattle.svn_dump.proofs.reader.Reader.read_headers.Goals as goal

pub returns-in_err-self-clause-shown : goal.returns-in_err-self-clause-shown
returns-in_err-self-clause-shown g c =
    let reader = c.args.self.now in
    let after = record reader { source = c.read_block.new.source } in
    let p = err_from_is_err_and c.from_residual.result c.from_residual.ensures.1 in
    rw (p.1, p.2) (shows_none Bool (λ v. v.items) reader.limits reader.source.taken c.taken-self.result (left_in g.R.Read.remaining reader)
    (left_in g.R.Read.remaining after) c.clear.new.self.items c.in_err-self.field-0.0 c.in_err-self.ensures.headers c.taken-self.ensures c.clear.ensures.items)

pub returns-clause-shown : goal.returns-clause-shown
returns-clause-shown g c =
    let reader = c.args.self.now in
    let source = c.read_block.new.source in
    let after = record reader { source = source } in
    let block = c.in_ok-self.field-0 in
    let len : c.headers_len.result ≡ headers_len block.items = c.headers_len.ensures ∙ ap headers_len c.deref.ensures.value in
    let begun : c.saturating_sub-self.result ≡ source.taken - headers_len block.items =
    c.saturating_sub-self.ensures ∙ (λ i. c.taken.ensures i - len i) in
    shows_headers (λ v. v.items) reader.limits reader.source.taken source.taken c.saturating_sub-self.result (left_in g.R.Read.remaining reader)
    (left_in g.R.Read.remaining after) block c.in_ok-self.ensures.headers c.in_ok-self.ensures.counted begun
