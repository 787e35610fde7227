-- The bytes of a statement and of a signed statement. Numbers have the most significant byte first.
use Rattle.std.specs.Prelude.{◌≡◌, ℕ, ◌+◌, ◌*◌, ◌/◌, ◌%◌, Bool, List, [], ◌∷◌, ◌++◌, length, take, drop, ◌==◌, nat_lt, slice_index}
use Rattle.statement.specs.declared.types.Statement.{Statement}
use Rattle.statement.specs.declared.types.SignedStatement.{SignedStatement}

-- the counter rose
abbrev pub is_advance : Statement → Bool
is_advance s = nat_lt s.old s.new

-- the counter stands
abbrev pub is_status : Statement → Bool
is_status s = s.old == s.new

-- a number in four bytes
abbrev pub four : ℕ → List ℕ
four n = n / 16777216 ∷ n / 65536 % 256 ∷ n / 256 % 256 ∷ n % 256 ∷ []

-- the number in the four bytes from the place k on
abbrev pub number_at : ℕ → List ℕ → ℕ
number_at k bytes =
    slice_index bytes k * 16777216 + slice_index bytes (k + 1) * 65536 + slice_index bytes (k + 2) * 256 + slice_index bytes (k + 3)

-- the number in the first four bytes
abbrev pub number : List ℕ → ℕ
number bytes = number_at 0 bytes

-- identity 8, counter 1, old 4, new 4, matter 32
abbrev pub statement_size : ℕ
statement_size = 49

-- the statement, then its tag of 32
abbrev pub signed_statement_size : ℕ
signed_statement_size = 81

-- the bytes of a statement, part after part
unfoldable pub encoded : Statement → List ℕ
encoded s = s.identity ++ (s.counter ∷ (four s.old ++ (four s.new ++ s.matter)))

-- the statement in the first statement_size bytes
abbrev pub decoded : List ℕ → Statement
decoded bytes =
    record {
      identity = take 8 bytes;
      counter = slice_index bytes 8;
      old = number_at 9 bytes;
      new = number_at 13 bytes;
      matter = take 32 (drop 17 bytes);
    }

-- the bytes of a signed statement
unfoldable pub encoded_signed : SignedStatement → List ℕ
encoded_signed s = encoded s.statement ++ s.tag

-- the signed statement in the first signed_statement_size bytes
abbrev pub decoded_signed : List ℕ → SignedStatement
decoded_signed bytes = record { statement = decoded bytes; tag = take 32 (drop statement_size bytes) }

-- a statement of the right lengths, as every one that a program holds
pub record Sized (s : Statement) : Type 0 where
  pub identity_bytes : length s.identity ≡ 8
  pub matter_bytes : length s.matter ≡ 32

pub record SizedSigned (s : SignedStatement) : Type 0 where
  pub sized : Sized s.statement
  pub tag_bytes : length s.tag ≡ 32

-- the bytes are the value's, hold it, and are no other value's
pub record IsEncoding {S : Type 0} (encoded : S → List ℕ) (decoded : List ℕ → S) (Sized : S → Type 0) (s : S) (bytes : List ℕ) : Type 0 where
  pub answers : bytes ≡ encoded s
  pub sized : Sized s
  pub back : decoded bytes ≡ s
  pub determines : (t : S) → Sized t → encoded t ≡ bytes → t ≡ s

-- the value is the one that the bytes hold, and they are its bytes
pub record IsDecoding {S : Type 0} (encoded : S → List ℕ) (decoded : List ℕ → S) (bytes : List ℕ) (s : S) : Type 0 where
  pub answers : s ≡ decoded bytes
  pub back : encoded s ≡ bytes
