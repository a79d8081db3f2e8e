-- Texts as they stand in XML, and in JSON that lies in HTML.
use Rattle.std.specs.Prelude.{ℕ, Bool, ◌||◌, ◌==◌, nat_le, Option, Some, None, if◌then◌else◌, List, [], ◌∷◌, codes}

-- what no XML may have: control characters and the two that are none
abbrev pub is_barred : ℕ → Bool
is_barred c = nat_le c 0x1f || ((c == 0xfffe) || (c == 0xffff))

-- what stands for a character that doesn't stand for itself, by bytes
abbrev pub escape_of : ℕ → Option (List ℕ)
escape_of c =
    if c == 38 then Some (codes "&amp;")
    else (if c == 60 then Some (codes "&lt;")
    else (if c == 62 then Some (codes "&gt;")
    else (if c == 34 then Some (codes "&quot;")
    else (if is_barred c then Some (239 ∷ 191 ∷ 189 ∷ []) else None))))

-- what stands for a character between the quotes of JSON, by bytes
abbrev pub json_escape_of : ℕ → Option (List ℕ)
json_escape_of c =
    if c == 34 then Some (92 ∷ 34 ∷ [])
    else (if c == 92 then Some (92 ∷ 92 ∷ [])
    else (if c == 10 then Some (92 ∷ codes "n")
    else (if c == 60 then Some (92 ∷ codes "u003c")
    else (if c == 62 then Some (92 ∷ codes "u003e")
    else (if c == 38 then Some (92 ∷ codes "u0026")
    else (if c == 0x2028 then Some (92 ∷ codes "u2028")
    else (if c == 0x2029 then Some (92 ∷ codes "u2029")
    else (if nat_le c 0x1f then Some (239 ∷ 191 ∷ 189 ∷ []) else None))))))))
