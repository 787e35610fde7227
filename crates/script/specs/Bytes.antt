-- Hex digits, and how long an argument may be.
use Rattle.std.specs.Prelude.{ℕ, ◌-◌, if◌then◌else◌, ◌&&◌, Some, None, Option, nat_le}

-- what a digit, a large letter or a small letter says
abbrev pub hex_value : ℕ → Option ℕ
hex_value c =
    if nat_le 48 c && nat_le c 57
    then Some (c - 48)
    else (if nat_le 65 c && nat_le c 70 then Some (c - 55) else (if nat_le 97 c && nat_le c 102 then Some (c - 87) else None))

-- the most bytes that one argument may have
abbrev pub most_bytes : ℕ
most_bytes = 70000
