-- Sizes in bytes, by which the contracts speak of blocks, digests, messages and keys.
use Rattle.std.specs.Prelude.{ℕ}

-- a block; also the part of a working area that is used and wiped
abbrev pub block_size : ℕ
block_size = 64

-- a digest or a tag
abbrev pub digest_size : ℕ
digest_size = 32

-- a message, and a key, has at most 65,536 bytes
abbrev pub longest : ℕ
longest = 65536

-- where the message's length stands in its last block
abbrev pub length_place : ℕ
length_place = 56
