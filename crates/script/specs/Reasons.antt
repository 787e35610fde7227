-- The words of an error line.
use Rattle.std.specs.Prelude.{ℕ, List, codes}
use Rattle.script.specs.declared.bad.Bad.{Bad}
use Rattle.script.specs.declared.bad.Bad.TheVariants.{Command, WordCount, Word, Number, Range, Bytes, TooMany, Length}

abbrev pub reason_of : Bad → List ℕ
reason_of Command = codes "unknown command"
reason_of WordCount = codes "wrong number of words"
reason_of Word = codes "unknown word"
reason_of Number = codes "bad number"
reason_of Range = codes "number out of range"
reason_of Bytes = codes "bad bytes"
reason_of TooMany = codes "too many bytes"
reason_of Length = codes "wrong length"
