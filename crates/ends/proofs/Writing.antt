-- What a written message is to the end that wrote it. Assumes nothing.
use Rattle.std.proofs.Common.{◌≡◌, ℕ, Bool, true, false, cond, leb, List, ◌++◌, length, drop, Ok, Err, Result, sym, ap, ◌∙◌}
use Rattle.lwe.specs.Limits.{Dimensions}
use Rattle.wire.specs.Headers.{message_length}
use Rattle.wire.specs.Messages.{Fields, encode, Written, buffer_after}
use Rattle.wire.specs.declared.fault.WireFault.{WireFault}
use Rattle.wire.specs.declared.fault.WireFault.TheVariants.{Room}
use Rattle.wire.specs.declared.kind.Kind.{Kind}
use Rattle.ends.specs.Calls.{written}

module _ {d : Dimensions} {k : Kind} {f : Fields} {room out : List ℕ} {r : Result ℕ WireFault} (w : Written d k f room out r) where
  pub write_size : {size : ℕ} → r ≡ Ok size → size ≡ message_length d k
  write_size {size} ok = go (leb (message_length d k) (length room)) (sym ok ∙ w.answer)
    where
      go : (b : Bool) → Ok size ≡ cond b (Ok (message_length d k)) (Err Room) → size ≡ message_length d k
      go true e = cc
      go false e = cc

  pub write_buffer : {size : ℕ} → r ≡ Ok size → out ≡ written (encode d k f) room
  write_buffer {size} ok = w.buffer ∙ ap (buffer_after (encode d k f) room) ok ∙ ap (λ n. encode d k f ++ drop n room) (write_size ok ∙ sym w.long)
