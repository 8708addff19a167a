-- The table of token bytes.
use Rattle.std.proofs.Common.{◌≡◌, ℕ, ◌+◌, ◌<◌, Bool, false, List, get_or, ◌∙◌, ap, refl, arith}
use Rattle.std.specs.Prelude.{map}
use Rattle.std.specs.List.{range_with_len}
use Rattle.std.proofs.lemmas.List.{get_or-map}
use Rattle.std.proofs.lemmas.List.FromFn.{get_or-range_with_len}
use Rattle.ca_reader.specs.declared.bytes.TheConstants.{TOKEN_BYTES}
use Rattle.ca_reader.specs.Bytes.{is_token_byte}

pub table_is : TOKEN_BYTES ≡ map is_token_byte (range_with_len 0 256)
unfolding is_token_byte
table_is = refl

pub table_at : (b : ℕ) → b < 256 → get_or TOKEN_BYTES b false ≡ is_token_byte b
table_at b h =
    let e : 0 + b ≡ b = omega arith in
    ap (λ (t : List Bool). get_or t b false) table_is
    ∙ get_or-map is_token_byte (range_with_len 0 256) b 0 false h
    ∙ ap is_token_byte (get_or-range_with_len 0 256 b 0 h ∙ e)
