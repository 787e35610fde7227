-- Published examples of the digest, from the standard, and of the tag.
use Rattle.std.specs.Prelude.{◌≡◌, [], ◌∷◌, codes}
use Rattle.std.specs.List.{flat_map}
use Rattle.digest.specs.Bytes.{Bytes, bytes4}
use Rattle.digest.specs.Words.{Words}
use Rattle.digest.specs.Sha256.{sha256}
use Rattle.digest.specs.Hmac.{hmac}

-- a digest given as eight words
abbrev pub as_words : Words → Bytes
as_words = flat_map bytes4

pub record PublishedExamples : Type 0 where
  pub empty : sha256 []
      ≡ as_words
      (0xe3b0_c442 ∷ 0x98fc_1c14 ∷ 0x9afb_f4c8 ∷ 0x996f_b924
      ∷ 0x27ae_41e4 ∷ 0x649b_934c ∷ 0xa495_991b ∷ 0x7852_b855 ∷ [])
  pub abc : sha256 (codes "abc")
      ≡ as_words
      (0xba78_16bf ∷ 0x8f01_cfea ∷ 0x4141_40de ∷ 0x5dae_2223
      ∷ 0xb003_61a3 ∷ 0x9617_7a9c ∷ 0xb410_ff61 ∷ 0xf200_15ad ∷ [])
  pub two_blocks : sha256 (codes "abcdbcdecdefdefgefghfghighijhijkijkljklmklmnlmnomnopnopq")
      ≡ as_words
      (0x248d_6a61 ∷ 0xd206_38b8 ∷ 0xe5c0_2693 ∷ 0x0c3e_6039
      ∷ 0xa33c_e459 ∷ 0x64ff_2167 ∷ 0xf6ec_edd4 ∷ 0x19db_06c1 ∷ [])
  pub short_key : hmac (codes "Jefe") (codes "what do ya want for nothing?")
      ≡ as_words
      (0x5bdc_c146 ∷ 0xbf60_754e ∷ 0x6a04_2426 ∷ 0x0895_75c7
      ∷ 0x5a00_3f08 ∷ 0x9d27_3983 ∷ 0x9dec_58b9 ∷ 0x64ec_3843 ∷ [])
