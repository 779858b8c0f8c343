-- What the laws come to at a few words. Assumes nothing.
use Rattle.std.specs.Prelude.{◌≡◌, pos, negsuc, Ok, Err}
use Rattle.noise.specs.Replies.{law_reply, value_reply}
use Rattle.noise.specs.declared.fault.NoiseFault.TheVariants.{Law, Word}

pub record Examples : Type 0 where
  -- law 0: the word is the value
  pub bit_clear : value_reply 0 0 ≡ Ok (pos 0)
  pub bit_set : value_reply 0 1 ≡ Ok (pos 1)
  pub bit_refused : value_reply 0 2 ≡ Err Word
  -- law 1, around the edges of its shares
  pub zero_last : value_reply 1 93 ≡ Ok (pos 0)
  pub one_first : value_reply 1 94 ≡ Ok (pos 1)
  pub minus_one_first : value_reply 1 156 ≡ Ok (negsuc 0)
  pub three_first : value_reply 1 252 ≡ Ok (pos 3)
  pub minus_three_last : value_reply 1 255 ≡ Ok (negsuc 2)
  pub byte_refused : value_reply 1 256 ≡ Err Word
  -- the last words of the others
  pub last_of_2 : value_reply 2 4095 ≡ Ok (negsuc 2)
  pub last_of_3 : value_reply 3 4095 ≡ Ok (negsuc 4)
  pub last_of_4 : value_reply 4 65535 ≡ Ok (negsuc 4)
  pub last_of_5 : value_reply 5 65535 ≡ Ok (negsuc 4)
  -- the numbers of the laws
  pub law_five : law_reply 5 ≡ Ok 5
  pub law_refused : law_reply 6 ≡ Err Law
