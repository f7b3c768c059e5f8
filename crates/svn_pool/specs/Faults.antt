-- The faults, and what a call returns where one is named.
use Rattle.std.specs.Prelude.{◌≡◌, ℕ, Option, None, Some, Result, Err, IsOk, IfErr, List, codes}
use Rattle.svn_pool.specs.declared.fault.PoolFault.{PoolFault}
use Rattle.svn_pool.specs.declared.fault.PoolFault.TheVariants.{Gone, Memory, TooLong, IsRoot, Full}

abbrev pub fault_number : PoolFault → ℕ
fault_number Gone = 1
fault_number Memory = 2
fault_number TooLong = 3
fault_number IsRoot = 4
fault_number Full = 5

abbrev pub fault_name : PoolFault → List ℕ
fault_name Gone = codes "Gone"
fault_name Memory = codes "Memory"
fault_name TooLong = codes "TooLong"
fault_name IsRoot = codes "IsRoot"
fault_name Full = codes "Full"

-- of a call that takes memory: the fault that is named is the result; where none is, the call succeeds or memory runs out
abbrev pub Answers : {T : Type 0} → Option PoolFault → Result T PoolFault → Type 0
Answers (Some f) r = r ≡ Err f
Answers None r = IfErr r (λ f. f ≡ Memory)

-- of a call that takes none: the fault that is named is the result; where none is, the call succeeds
abbrev pub Settles : {T : Type 0} → Option PoolFault → Result T PoolFault → Type 0
Settles (Some f) r = r ≡ Err f
Settles None r = IsOk r
