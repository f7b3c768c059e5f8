use Rattle.std.proofs.Common.{◌≡◌, ◌&&◌, ◌-◌, false, Err, sym, ◌∙◌, arith}
use Rattle.svn_dump.specs.declared.fault.Reason.TheVariants.{CutOff, HeadersTooLong}
use Rattle.svn_dump.specs.declared.fault.DumpFault.TheVariants.{Refused}
use Rattle.svn_dump.specs.Blocks.{headers_at, is_line_feed, with_front}
use Rattle.svn_dump.proofs.BlockLemmas.{both, not_first, not_second, is_zero, not_zero, line_taken, headers_cut, headers_end, headers_full, headers_more}
use Rattle.svn_dump.proofs.Streams.{stops, ends_at, refuses_at, goes_on}
use Rattle.svn_dump.proofs.input.read_headers.Goals as goal
use Rattle.svn_dump.proofs.input.read_headers.Goals.{else-fresh-via-then-fresh+else-is_line_feed, else-fresh-via-else-fresh}

pub returns-in-Ok-None-clause-headers : goal.returns-in-Ok-None-clause-headers
returns-in-Ok-None-clause-headers g c =
    let n = c.in_ok-count.count in
    let fresh = c.is_still_fresh-fresh.result in
    let front = c.take_ahead.new.block.items in
    let line =
    line_taken (g.S.Input.remaining c.args.source.now) (g.S.Input.remaining c.bytes.source) (g.S.Input.remaining c.take_ahead.new.source) _
    c.bytes.block.items front (g.S.Input.ahead c.bytes.source) c.bytes.fresh fresh c.bytes.left n c.bytes.invariant.0
    c.in_ok-count.ensures.bytes c.in_ok-count.ensures.line c.in_ok-count.ensures.fits c.in_ok-count.ensures.kept c.is_still_fresh-fresh.ensures in
    stops (λ v. v.items) (g.S.Input.remaining c.args.source.now) (g.S.Input.remaining c.take_ahead.new.source) (g.S.Input.remaining c.read_byte.new.source)
    (Err (Refused CutOff)) _ _ line (rw c.in-Ok-None.field-0-is at c.in-Ok-None.ensures.bytes)
    (headers_cut front fresh (c.bytes.left - n))

pub returns-then-is_line_feed-clause-headers : goal.returns-then-is_line_feed-clause-headers
returns-then-is_line_feed-clause-headers g c =
    let n = c.in_ok-count.count in
    let fresh = c.is_still_fresh-fresh.result in
    let front = c.take_ahead.new.block.items in
    let line =
    line_taken (g.S.Input.remaining c.args.source.now) (g.S.Input.remaining c.bytes.source) (g.S.Input.remaining c.take_ahead.new.source) _
    c.bytes.block.items front (g.S.Input.ahead c.bytes.source) c.bytes.fresh fresh c.bytes.left n c.bytes.invariant.0
    c.in_ok-count.ensures.bytes c.in_ok-count.ensures.line c.in_ok-count.ensures.fits c.in_ok-count.ensures.kept c.is_still_fresh-fresh.ensures in
    let end = both fresh (is_line_feed c.in-Ok-Some.byte) c.if-fresh.true (sym c.is_line_feed.ensures ∙ c.if-is_line_feed.true) in
    ends_at (λ v. v.items) (g.S.Input.remaining c.args.source.now) (g.S.Input.remaining c.take_ahead.new.source) (g.S.Input.remaining c.read_byte.new.source)
    c.in-Ok-Some.byte c.take_ahead.new.block _ _ line (rw c.in-Ok-Some.field-0-is at c.in-Ok-Some.ensures.bytes)
    (λ bs. headers_end front fresh (c.bytes.left - n) c.in-Ok-Some.byte bs end)

pub returns-then-left-eq0-clause-headers : goal.returns-then-left-eq0-clause-headers
returns-then-left-eq0-clause-headers g c =
    let n = c.in_ok-count.count in
    let fresh = c.is_still_fresh-fresh.result in
    let front = c.take_ahead.new.block.items in
    let line =
    line_taken (g.S.Input.remaining c.args.source.now) (g.S.Input.remaining c.bytes.source) (g.S.Input.remaining c.take_ahead.new.source) _
    c.bytes.block.items front (g.S.Input.ahead c.bytes.source) c.bytes.fresh fresh c.bytes.left n c.bytes.invariant.0
    c.in_ok-count.ensures.bytes c.in_ok-count.ensures.line c.in_ok-count.ensures.fits c.in_ok-count.ensures.kept c.is_still_fresh-fresh.ensures in
    let more : (fresh && is_line_feed c.in-Ok-Some.byte) ≡ false =
    elim c.else-fresh.branch [
      | else-fresh-via-then-fresh+else-is_line_feed w ↦ not_second fresh _ (sym w.is_line_feed.ensures ∙ w.if-is_line_feed.false)
      | else-fresh-via-else-fresh w ↦ not_first fresh _ w.if-fresh.false
    ] in
    refuses_at (λ v. v.items) (g.S.Input.remaining c.args.source.now) (g.S.Input.remaining c.take_ahead.new.source) (g.S.Input.remaining c.read_byte.new.source)
    c.in-Ok-Some.byte HeadersTooLong _ _ line (rw c.in-Ok-Some.field-0-is at c.in-Ok-Some.ensures.bytes)
    (λ bs. headers_full front fresh (c.bytes.left - n) c.in-Ok-Some.byte bs more (is_zero (c.bytes.left - n) c.if-left-eq0.true))

pub bytes-preserved : goal.bytes-preserved
bytes-preserved g c =
    let n = c.in_ok-count.count in
    let fresh = c.is_still_fresh-fresh.result in
    let front = c.take_ahead.new.block.items in
    let line =
    line_taken (g.S.Input.remaining c.args.source.now) (g.S.Input.remaining c.bytes.source) (g.S.Input.remaining c.take_ahead.new.source) _
    c.bytes.block.items front (g.S.Input.ahead c.bytes.source) c.bytes.fresh fresh c.bytes.left n c.bytes.invariant.0
    c.in_ok-count.ensures.bytes c.in_ok-count.ensures.line c.in_ok-count.ensures.fits c.in_ok-count.ensures.kept c.is_still_fresh-fresh.ensures in
    let more : (fresh && is_line_feed c.in-Ok-Some.byte) ≡ false =
    elim c.else-fresh.branch [
      | else-fresh-via-then-fresh+else-is_line_feed w ↦ not_second fresh _ (sym w.is_line_feed.ensures ∙ w.if-is_line_feed.false)
      | else-fresh-via-else-fresh w ↦ not_first fresh _ w.if-fresh.false
    ] in
    let left = c.bytes.left - n in
    let room = not_zero left (omega arith) in (
      goes_on (g.S.Input.remaining c.args.source.now) (g.S.Input.remaining c.take_ahead.new.source) (g.S.Input.remaining c.read_byte.new.source)
          c.in-Ok-Some.byte _ _ (λ bs. with_front c.push-in-bytes.new.self.items (headers_at c.is_line_feed-fresh.result (left - 1) bs))
          line (rw c.in-Ok-Some.field-0-is at c.in-Ok-Some.ensures.bytes)
          (λ bs. headers_more front c.push-in-bytes.new.self.items fresh c.is_line_feed-fresh.result left
          c.in-Ok-Some.byte bs more room c.in_ok-push-2.ensures.items c.is_line_feed-fresh.ensures),
      omega (arith, c.bytes.invariant.1, c.in_ok-count.ensures.len, c.in_ok-count.ensures.fits, c.in_ok-push-2.ensures.len),
      λ all taken. c.read_byte.ensures.counted all (c.take_ahead.ensures.counted all (c.bytes.invariant.2 all taken)),
      omega (arith, c.read_byte.ensures.grows, c.take_ahead.ensures.grows, c.bytes.invariant.3),
      c.in-Ok-Some.ensures.failed ∙ c.take_ahead.ensures.failed ∙ c.bytes.invariant.4,
    )
