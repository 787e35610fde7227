-- What the benchmark's entry points answer and write.
use Rattle.std.specs.Prelude.{ℕ, ◌++◌, length, drop, Ok, Err, Result, nat_lt, if◌then◌else◌}
use Rattle.digest.specs.Bytes.{Bytes}
use Rattle.digest.specs.declared.fault.DigestFault.{DigestFault}
use Rattle.digest.specs.Faults.{number_of}
use Rattle.digest.specs.Sizes.{digest_size}

-- what a call answers where the area for its answer is too short
abbrev pub short : ℕ
short = 255

-- 255 where the area is short, else 0 or the refusal's number
abbrev pub code_of : Result Bytes DigestFault → ℕ
code_of (Ok bytes) = 0
code_of (Err fault) = number_of fault

abbrev pub code : Result Bytes DigestFault → ℕ → ℕ
code answer room = if nat_lt room digest_size then short else code_of answer

-- the answer at the front of the area, or the area as it was
abbrev pub written_of : Result Bytes DigestFault → Bytes → Bytes
written_of (Ok bytes) area = bytes ++ drop digest_size area
written_of (Err fault) area = area

abbrev pub written : Result Bytes DigestFault → Bytes → Bytes
written answer area = if nat_lt (length area) digest_size then area else written_of answer area
