-- A reader, made of the bytes that a dump begins with.
use Rattle.std.proofs.Common.{◌≡◌, ℕ, List, Option, Some, None, Ok, Err, sym, ap, subst, ◌∙◌, false, MatchOption}
use Rattle.svn_dump.specs.declared.fault.DumpFault.{DumpFault}
use Rattle.svn_dump.specs.declared.reader.Reader.{Reader}
use Rattle.svn_dump.specs.declared.sections.Limits.{Limits}
use Rattle.svn_dump.specs.Reading.{◌>>=◌, Meets, Fails, Reads}
use Rattle.svn_dump.specs.Blocks.{block_at}
use Rattle.svn_dump.specs.Records.{format_value, format_at}
use Rattle.svn_dump.specs.Readers.{Opens}
use Rattle.svn_dump.proofs.Sequences.{fails_first, fails_meeting}

-- the headers of the first record can't be read
pub not_begun : {R X : Type 0} (view : X → List ℕ) (limits : Limits) (known new : Option (List ℕ)) (left : Reader R → Option (List ℕ)) (e : DumpFault)
    → Reads view known new (Err e) (block_at false limits.headers) → Opens limits known left (Err e)
unfolding format_at
not_begun view limits None new left e h = tt
not_begun view limits (Some bytes) None left e h =
    fails_first e (block_at false limits.headers bytes) (λ block. format_value block.0 >>= λ format. Ok (format, block.1)) h
not_begun view limits (Some bytes) (Some rest) left e h =
    fails_first e (block_at false limits.headers bytes) (λ block. format_value block.0 >>= λ format. Ok (format, block.1)) h

-- they give no format
pub no_format : {R X : Type 0} (view : X → List ℕ) (limits : Limits) (known new : Option (List ℕ)) (left : Reader R → Option (List ℕ)) (x : X)
    (e : DumpFault) → Reads view known new (Ok x) (block_at false limits.headers) → Meets e (format_value (view x)) → Opens limits known left (Err e)
unfolding format_at
no_format view limits None new left x e h k = tt
no_format view limits (Some bytes) None left x e h k = absurd h
no_format view limits (Some bytes) (Some rest) left x e h k =
    let step : (format_value (view x) >>= λ format. Ok (format, rest)) ≡ format_at limits bytes =
    sym (ap (λ r. r >>= λ block. format_value block.0 >>= λ format. Ok (format, block.1)) h) in
    subst (λ r. Fails e r) step (fails_first e (format_value (view x)) (λ format. Ok (format, rest)) (fails_meeting e (format_value (view x)) k))

-- they give one
pub begun : {R X : Type 0} (view : X → List ℕ) (limits : Limits) (known new : Option (List ℕ)) (left : Reader R → Option (List ℕ)) (x : X)
    (reader : Reader R) (format : ℕ) → Reads view known new (Ok x) (block_at false limits.headers) → format_value (view x) ≡ Ok format
    → left reader ≡ new → Opens limits known left (Ok reader)
unfolding format_at
begun view limits None new left x reader format h k same = tt
begun view limits (Some bytes) None left x reader format h k same = absurd h
begun view limits (Some bytes) (Some rest) left x reader format h k same =
    let step : format_at limits bytes ≡ Ok (format, rest) =
    ap (λ r. r >>= λ block. format_value block.0 >>= λ f. Ok (f, block.1)) h ∙ ap (λ r. r >>= λ f. Ok (f, rest)) k in
    subst (λ (found : Option (List ℕ)). MatchOption found ⊥ (λ after. (f : ℕ) × (format_at limits bytes ≡ Ok (f, after)))) (sym same) (format, step)
