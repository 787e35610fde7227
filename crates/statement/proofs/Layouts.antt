-- The laws of the layouts: what was written is read again, and the bytes determine the fields.
use Rattle.std.proofs.Common.{◌≡◌, ℕ, ◌+◌, ◌*◌, ◌/◌, ◌%◌, ◌^◌, ◌<◌, ◌≤◌, List, [], ◌∷◌, ◌++◌, length, get_or, take, drop, sym, ap, ◌∙◌, append_assoc, arith, take-add, Some, None, nat_le, if◌then◌else◌, refl, true}
use Rattle.std.proofs.lemmas.Bool.Decides.{nat_tests}
use Rattle.std.proofs.lemmas.List.{take_at, drop_at, drop-drop, length-append, append-nil, length-drop, length-take-le, get_or-take, get_or-drop, take_all, take-append-drop}
use Rattle.statement.specs.declared.types.Statement.{Statement}
use Rattle.statement.specs.declared.types.SignedStatement.{SignedStatement}
use Rattle.statement.specs.Layout.{four, number, number_at, encoded, decoded, encoded_signed, decoded_signed, Sized, SizedSigned, IsEncoding, IsDecoding, statement_size, signed_statement_size}

pub number-four : (n : ℕ) → number (four n) ≡ n
number-four n = omega arith

-- the four bytes as a program takes them from a number of 32 bits
pub four_bytes :
    (n : ℕ) → n < 2 ^ 32 → n / 16777216 % 256 ∷ n / 65536 % 256 ∷ n / 256 % 256 ∷ n % 256 ∷ [] ≡ four n
four_bytes n h = ap (λ x. x ∷ n / 65536 % 256 ∷ n / 256 % 256 ∷ n % 256 ∷ []) (omega arith)

pub same_fields :
    (s t : Statement) → s.identity ≡ t.identity → s.counter ≡ t.counter → s.old ≡ t.old → s.new ≡ t.new →
    s.matter ≡ t.matter → s ≡ t
same_fields s t a b c d e = made a b c d e
  where
    made :
        {i j m o : List ℕ} {k l p q u v : ℕ} → i ≡ j → k ≡ l → p ≡ q → u ≡ v → m ≡ o →
        ◌≡◌ {A = Statement}
        (record { identity = i; counter = k; old = p; new = u; matter = m })
        (record { identity = j; counter = l; old = q; new = v; matter = o })
    made a b c d e = cc

pub length-encoded : (s : Statement) → Sized s → length (encoded s) ≡ statement_size
unfolding encoded
length-encoded s h = simp length-append (omega arith)

-- what was written is read again, whatever lies behind
pub decoded-encoded : (s : Statement) (rest : List ℕ) → Sized s → decoded (encoded s ++ rest) ≡ s
unfolding encoded
decoded-encoded s rest h = by_cells s.identity s.counter s.old s.new s.matter h.identity_bytes h.matter_bytes
  where
    by_cells :
        (i : List ℕ) (c old new : ℕ) (m : List ℕ) → length i ≡ 8 → length m ≡ 32 →
        decoded ((i ++ (c ∷ (four old ++ (four new ++ m)))) ++ rest) ≡ record { identity = i; counter = c; old = old; new = new; matter = m }
    by_cells (i1 ∷ i2 ∷ i3 ∷ i4 ∷ i5 ∷ i6 ∷ i7 ∷ i8 ∷ []) c old new m g f =
        same_fields _ _ refl refl (number-four old) (number-four new) (take_at m rest 32 f)
    by_cells _ c old new m g f = absurd (omega arith)

pub encoded_determines : (s t : Statement) → Sized s → Sized t → encoded s ≡ encoded t → s ≡ t
encoded_determines s t g h e =
    sym (decoded-encoded s [] g) ∙ (ap (λ b. decoded (b ++ [])) e ∙ decoded-encoded t [] h)

four-number :
    (a b c d : ℕ) → b < 256 → c < 256 → d < 256 → four (a * 16777216 + b * 65536 + c * 256 + d) ≡ a ∷ b ∷ c ∷ d ∷ []
four-number a b c d hb hc hd = made (omega arith) (omega arith) (omega arith) (omega arith)
  where
    made :
        {a b c d e f g h : ℕ} → a ≡ e → b ≡ f → c ≡ g → d ≡ h →
        ◌≡◌ {A = List ℕ} (a ∷ b ∷ c ∷ d ∷ []) (e ∷ f ∷ g ∷ h ∷ [])
    made a b c d = cc

both_four : {x y u v : List ℕ} → x ≡ u → y ≡ v → (z : List ℕ) → x ++ (y ++ z) ≡ u ++ (v ++ z)
both_four a b z = cc

-- what is read from the bytes of a statement is written as those bytes
pub encoded-decoded :
    (bytes : List ℕ) → statement_size ≤ length bytes → ((k : ℕ) → get_or bytes k 0 < 256) →
    encoded (decoded bytes) ≡ take statement_size bytes
unfolding encoded
encoded-decoded (i1 ∷ i2 ∷ i3 ∷ i4 ∷ i5 ∷ i6 ∷ i7 ∷ i8 ∷ c ∷ o1 ∷ o2 ∷ o3 ∷ o4 ∷ n1 ∷ n2 ∷ n3 ∷ n4 ∷ matter) long byte =
    let old = four-number o1 o2 o3 o4 (byte 10) (byte 11) (byte 12) in
    let new = four-number n1 n2 n3 n4 (byte 14) (byte 15) (byte 16) in
    ap (λ z. i1 ∷ i2 ∷ i3 ∷ i4 ∷ i5 ∷ i6 ∷ i7 ∷ i8 ∷ c ∷ z) (both_four old new (take 32 matter))
encoded-decoded _ long byte = absurd (omega arith)

pub same_parts :
    {a b : Statement} {t u : List ℕ} → a ≡ b → t ≡ u →
    ◌≡◌ {A = SignedStatement} (record { statement = a; tag = t }) (record { statement = b; tag = u })
same_parts a b = cc

pub length-encoded_signed : (s : SignedStatement) → SizedSigned s → length (encoded_signed s) ≡ signed_statement_size
unfolding encoded_signed
length-encoded_signed s h =
    let e = length-encoded s.statement h.sized in
    length-append (encoded s.statement) s.tag ∙ omega arith

pub decoded-encoded_signed :
    (s : SignedStatement) (rest : List ℕ) → SizedSigned s → decoded_signed (encoded_signed s ++ rest) ≡ s
unfolding encoded_signed
decoded-encoded_signed s rest h =
    let e : encoded_signed s ++ rest ≡ encoded s.statement ++ (s.tag ++ rest) = append_assoc (encoded s.statement) s.tag rest in
    let n = length-encoded s.statement h.sized in
    let b = ap (take 32) (drop_at (encoded s.statement) (s.tag ++ rest) statement_size n) ∙ take_at s.tag rest 32 h.tag_bytes in
    let a = decoded-encoded s.statement (s.tag ++ rest) h.sized in
    ap decoded_signed e ∙ same_parts a b

pub encoded_signed_determines :
    (s t : SignedStatement) → SizedSigned s → SizedSigned t → encoded_signed s ≡ encoded_signed t → s ≡ t
encoded_signed_determines s t g h e =
    sym (decoded-encoded_signed s [] g)
    ∙ (ap (λ b. decoded_signed (b ++ [])) e ∙ decoded-encoded_signed t [] h)

pub encoded-decoded_signed :
    (bytes : List ℕ) → signed_statement_size ≤ length bytes → ((k : ℕ) → get_or bytes k 0 < 256) →
    encoded_signed (decoded_signed bytes) ≡ take signed_statement_size bytes
unfolding encoded_signed
encoded-decoded_signed bytes long byte =
    let e = encoded-decoded bytes (omega arith) byte in
    ap (λ z. z ++ take 32 (drop statement_size bytes)) e ∙ sym (take-add statement_size 32 bytes)

-- the bytes of a value, and all that they tell, where every value is read again from its bytes
pub encoding_of :
    {S : Type 0} (encode : S → List ℕ) (decode : List ℕ → S) (Fits : S → Type 0) →
    ((s : S) (rest : List ℕ) → Fits s → decode (encode s ++ rest) ≡ s) →
    (s : S) (bytes : List ℕ) → Fits s → bytes ≡ encode s → IsEncoding encode decode Fits s bytes
encoding_of encode decode Fits back s bytes fits answers =
    let read : decode bytes ≡ s = ap decode (answers ∙ sym (append-nil (encode s))) ∙ back s [] fits in
    record {
      answers = answers;
      sized = fits;
      back = read;
      determines = λ t g e. sym (back t [] g) ∙ (ap decode (append-nil (encode t) ∙ e) ∙ read);
    }

-- the four bytes from a place on, cut out
number-take-drop : (k : ℕ) (bytes : List ℕ) → number (take 4 (drop k bytes)) ≡ number_at k bytes
number-take-drop k bytes =
    let at = λ (i : ℕ) (h : i < 4). get_or-take 4 (drop k bytes) i 0 h ∙ get_or-drop k bytes i 0 in
    let a : get_or (take 4 (drop k bytes)) 0 0 ≡ get_or bytes k 0 = at 0 (omega arith) ∙ ap (λ i. get_or bytes i 0) (omega arith) in
    let b = at 1 (omega arith) in
    let c = at 2 (omega arith) in
    let d = at 3 (omega arith) in
    omega (arith, a, b, c, d)

-- the fields of a statement, each cut out of its bytes
pub decoding_of :
    (bytes : List ℕ) (s : Statement) (old new : List ℕ) → length bytes ≡ statement_size → ((k : ℕ) → get_or bytes k 0 < 256) →
    s.identity ≡ take 8 bytes → s.counter ≡ get_or bytes 8 0 → s.old ≡ number old → old ≡ take 4 (drop 9 bytes) →
    s.new ≡ number new → new ≡ take 4 (drop 13 bytes) → s.matter ≡ take 32 (drop 17 bytes) →
    IsDecoding encoded decoded bytes s
decoding_of bytes s old new size byte i c o o_cut n n_cut m =
    let number_of = λ (k : ℕ) (cut : List ℕ) (e : cut ≡ take 4 (drop k bytes)). ap number e ∙ number-take-drop k bytes in
    let answers = same_fields s (decoded bytes) i c (o ∙ number_of 9 old o_cut) (n ∙ number_of 13 new n_cut) m in
    record {
      answers = answers;
      back = ap encoded answers ∙ (encoded-decoded bytes (omega arith) byte ∙ take_all statement_size bytes (omega arith));
    }

-- the parts of a signed statement, each cut out of its bytes
pub signed_decoding_of :
    (bytes : List ℕ) (s : SignedStatement) → IsDecoding encoded decoded (take statement_size bytes) s.statement →
    s.tag ≡ take 32 (drop statement_size bytes) → length bytes ≡ signed_statement_size → Sized s.statement →
    IsDecoding encoded_signed decoded_signed bytes s
unfolding encoded_signed
signed_decoding_of bytes s statement tag size h =
    let whole : take statement_size bytes ++ take 32 (drop statement_size bytes) ≡ bytes =
    sym (take-add statement_size 32 bytes) ∙ take_all signed_statement_size bytes (omega arith) in
    let back : encoded s.statement ++ s.tag ≡ bytes = rw (statement.back, tag) whole in
    let tag_bytes = ap length tag ∙ length-take-le 32 (drop statement_size bytes) (omega (arith, length-drop statement_size bytes)) in
    record {
      answers = sym (ap decoded_signed (sym back ∙ sym (append-nil (encoded_signed s))) ∙ decoded-encoded_signed s [] (record { sized = h; tag_bytes = tag_bytes }));
      back = back;
    }

-- the value at the front of a part that is long enough
pub front_read :
    {S : Type 0} (n : ℕ) (of : List ℕ → S) (part bytes : List ℕ) (s : S) → n ≤ length part → bytes ≡ take n part →
    ((rest : List ℕ) → of (bytes ++ rest) ≡ s) →
    Some s ≡ (if nat_le n (length part) then Some (of part) else None)
front_read n of part bytes s long cut front =
    let e : of part ≡ s = ap of (sym (take-append-drop n part)) ∙ (ap (λ b. of (b ++ drop n part)) (sym cut) ∙ front (drop n part)) in
    let yes : nat_le n (length part) ≡ true = grind (arith, nat_tests) in
    rw (e, yes) refl

-- the byte at a place and what lies behind it
pub first_behind :
    (k : ℕ) (bytes rest xs : List ℕ) (x : ℕ) → rest ≡ drop k bytes → rest ≡ x ∷ xs →
    (x ≡ get_or bytes k 0) × (xs ≡ drop (k + 1) bytes)
first_behind k bytes rest xs x r f =
    let e : drop k bytes ≡ x ∷ xs = sym r ∙ f in (
      ap (λ z. get_or z 0 0) (sym e) ∙ (get_or-drop k bytes 0 0 ∙ ap (λ i. get_or bytes i 0) (omega arith)),
      ap (drop 1) (sym e) ∙ drop-drop 1 k bytes,
    )
