-- HMAC with SHA-256, as RFC 2104 defines it.
use Rattle.std.specs.Prelude.{ℕ, ◌-◌, if◌then◌else◌, ◌++◌, map, length, replicate, bit_xor, nat_lt}
use Rattle.digest.specs.Bytes.{Bytes}
use Rattle.digest.specs.Sizes.{block_size}
use Rattle.digest.specs.Sha256.{sha256}

-- a key longer than a block is replaced by its digest
abbrev pub short_key : Bytes → Bytes
short_key key = if nat_lt block_size (length key) then sha256 key else key

-- a key of at most a block with zeros after it, up to a block
unfoldable pub key_block : Bytes → Bytes
key_block key = key ++ replicate (block_size - length key) 0

-- a block with every byte changed by a mask
unfoldable pub masked : ℕ → Bytes → Bytes
masked mask block = map (λ byte. bit_xor byte mask) block

-- the digest of the key block, changed by a mask, and a text after it
abbrev pub keyed : ℕ → Bytes → Bytes → Bytes
keyed mask key text = sha256 (masked mask (key_block key) ++ text)

-- the masks of the inner and the outer digest
abbrev pub ipad : ℕ
ipad = 0x36

abbrev pub opad : ℕ
opad = 0x5c

abbrev pub short_hmac : Bytes → Bytes → Bytes
short_hmac key message = keyed opad key (keyed ipad key message)

unfoldable pub hmac : Bytes → Bytes → Bytes
hmac key message = short_hmac (short_key key) message
