use Rattle.std.proofs.Common.{rules, ◌≡◌, [], ◌∷◌, sym, subst}
use Rattle.json.specs.Print.{escape_byte}
use Rattle.mt_json.specs.Draft.{HasRoom, Appends}
use Rattle.mt_json.proofs.quote.put_escape.Goals as goal

pub put_bytes-requires : goal.put_bytes-requires
unfolding escape_byte
put_bytes-requires c =
    let same : escape_byte c.args.byte ≡ 92 ∷ c.letter_of-letter.result ∷ [] = search rules in
    subst (HasRoom c.args.room.now) same c.requires

pub put_bytes-requires-then-byte-lt32 : goal.put_bytes-requires-then-byte-lt32
unfolding escape_byte
put_bytes-requires-then-byte-lt32 c =
    let same : escape_byte c.args.byte ≡ 92 ∷ 117 ∷ 48 ∷ 48 ∷ c.hex_digit.result ∷ c.hex_digit-then-byte-lt32.result ∷ [] = search rules in
    subst (HasRoom c.args.room.now) same c.requires

pub put_bytes-requires-else-byte-lt32 : goal.put_bytes-requires-else-byte-lt32
unfolding escape_byte
put_bytes-requires-else-byte-lt32 c =
    let same : escape_byte c.args.byte ≡ c.args.byte ∷ [] = search rules in
    subst (HasRoom c.args.room.now) same c.requires

pub returns-then-letter-gt0 : goal.returns-then-letter-gt0
unfolding escape_byte
returns-then-letter-gt0 c =
    let same : escape_byte c.args.byte ≡ 92 ∷ c.letter_of-letter.result ∷ [] = search rules in
    subst (λ t. Appends c.args.room.now t c.put_bytes.new.room) (sym same) c.put_bytes.ensures

pub returns-then-byte-lt32 : goal.returns-then-byte-lt32
unfolding escape_byte
returns-then-byte-lt32 c =
    let same : escape_byte c.args.byte ≡ 92 ∷ 117 ∷ 48 ∷ 48 ∷ c.hex_digit.result ∷ c.hex_digit-then-byte-lt32.result ∷ [] = search rules in
    subst (λ t. Appends c.args.room.now t c.put_bytes-then-byte-lt32.new.room) (sym same) c.put_bytes-then-byte-lt32.ensures

pub returns-else-byte-lt32 : goal.returns-else-byte-lt32
unfolding escape_byte
returns-else-byte-lt32 c =
    let same : escape_byte c.args.byte ≡ c.args.byte ∷ [] = search rules in
    subst (λ t. Appends c.args.room.now t c.put_bytes-else-byte-lt32.new.room) (sym same) c.put_bytes-else-byte-lt32.ensures
