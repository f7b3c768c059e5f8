use Rattle.std.proofs.Common.{◌≡◌, ◌||◌, ◌-◌, [], ◌∷◌, false, true, not, Ok, sym, ap, ◌∙◌, arith}
use Rattle.svn_dump.specs.declared.fault.Reason.TheVariants.{HeadersTooLong}
use Rattle.svn_dump.specs.Blocks.{block_at, headers_at, is_space, with_front}
use Rattle.svn_dump.proofs.BlockLemmas.{neither, by_first, by_second, is_zero, not_zero, block_none, block_full, block_blank, block_begins}
use Rattle.svn_dump.proofs.Streams.{stops, refuses_at, goes_on, reads_on}
use Rattle.svn_dump.proofs.input.read_block.Goals as goal
use Rattle.svn_dump.proofs.input.read_block.Goals.{else-not-blank-via-then-not-blank+else-not-is_space, else-not-blank-via-else-not-blank}

pub returns-in-Ok-None-clause-headers : goal.returns-in-Ok-None-clause-headers
returns-in-Ok-None-clause-headers g c =
    stops (λ v. v.items) (g.S.Input.remaining c.args.source.now) (g.S.Input.remaining c.bytes.source) (g.S.Input.remaining c.read_byte.new.source)
    (Ok c.new.result) _ _ c.bytes.invariant.0 (rw c.in-Ok-None.field-0-is at c.in-Ok-None.ensures.bytes)
    (block_none c.bytes.blank c.bytes.left ∙ ap (λ l. Ok (l, [])) (sym c.new.ensures.items))

pub returns-then-left-eq0-clause-headers : goal.returns-then-left-eq0-clause-headers
returns-then-left-eq0-clause-headers g c =
    refuses_at (λ v. v.items) (g.S.Input.remaining c.args.source.now) (g.S.Input.remaining c.bytes.source) (g.S.Input.remaining c.read_byte.new.source)
    c.in-Ok-Some.byte HeadersTooLong _ _ c.bytes.invariant.0 (rw c.in-Ok-Some.field-0-is at c.in-Ok-Some.ensures.bytes)
    (λ bs. block_full c.bytes.blank c.bytes.left c.in-Ok-Some.byte bs (is_zero c.bytes.left c.if-left-eq0.true))

pub returns-then-not-is_space-clause-headers : goal.returns-then-not-is_space-clause-headers
returns-then-not-is_space-clause-headers g c =
    let begins = neither c.bytes.blank (is_space c.in-Ok-Some.byte) c.if-not-blank.true (sym c.is_space.ensures ∙ c.if-not-is_space.true) in
    let room = not_zero c.bytes.left (omega arith) in
    reads_on (λ v. v.items) (g.S.Input.remaining c.args.source.now) (g.S.Input.remaining c.read_byte.new.source) (g.S.Input.remaining c.read_headers.new.source)
    c.read_headers.result _ _
    (goes_on (g.S.Input.remaining c.args.source.now) (g.S.Input.remaining c.bytes.source) (g.S.Input.remaining c.read_byte.new.source)
    c.in-Ok-Some.byte _ _ (λ bs. with_front (c.in-Ok-Some.byte ∷ []) (headers_at false (c.bytes.left - 1) bs))
    c.bytes.invariant.0 (rw c.in-Ok-Some.field-0-is at c.in-Ok-Some.ensures.bytes)
    (λ bs. block_begins c.bytes.blank c.bytes.left c.in-Ok-Some.byte bs room begins))
    c.read_headers.ensures.headers

pub bytes-preserved : goal.bytes-preserved
bytes-preserved g c =
    let passed : (c.bytes.blank || is_space c.in-Ok-Some.byte) ≡ true =
    elim c.else-not-blank.branch [
      | else-not-blank-via-then-not-blank+else-not-is_space w ↦ by_second c.bytes.blank _ (sym w.is_space.ensures ∙ w.if-not-is_space.false)
      | else-not-blank-via-else-not-blank w ↦ by_first c.bytes.blank _ w.if-not-blank.false
    ] in
    let room = not_zero c.bytes.left (omega arith) in (
      goes_on (g.S.Input.remaining c.args.source.now) (g.S.Input.remaining c.bytes.source) (g.S.Input.remaining c.read_byte.new.source)
          c.in-Ok-Some.byte _ _ (block_at (not c.is_line_feed-blank.result) (c.bytes.left - 1))
          c.bytes.invariant.0 (rw c.in-Ok-Some.field-0-is at c.in-Ok-Some.ensures.bytes)
          (λ bs. block_blank c.bytes.blank c.is_line_feed-blank.result c.bytes.left c.in-Ok-Some.byte bs room passed
          c.is_line_feed-blank.ensures),
      omega (arith, c.bytes.invariant.1),
      λ all taken. c.read_byte.ensures.counted all (c.bytes.invariant.2 all taken),
      omega (arith, c.read_byte.ensures.grows, c.bytes.invariant.3),
      c.in-Ok-Some.ensures.failed ∙ c.bytes.invariant.4,
    )
