-- What `speed_sps` returns, made from the answer of `SpsHead::parse_rbsp`.
use Rattle.parse.specs.Outcome.{Outcome, accept, refuse}
use Rattle.sps.specs.declared.SpsHead.{SpsHead}
use Rattle.speed_sps.specs.declared.SpsNumbers.{SpsNumbers}

-- 0 and the numbers of the head, or the refusal's number and zeros
abbrev pub numbers_of : Outcome SpsHead → SpsNumbers
numbers_of (accept h) = record {
  refusal = 0;
  pic_width = h.pic_width;
  pic_height = h.pic_height;
  conf_win_left_offset = h.conf_win_left_offset;
  conf_win_right_offset = h.conf_win_right_offset;
  conf_win_top_offset = h.conf_win_top_offset;
  conf_win_bottom_offset = h.conf_win_bottom_offset;
  bit_depth = h.bit_depth;
}
numbers_of (refuse e) = record {
  refusal = e;
  pic_width = 0;
  pic_height = 0;
  conf_win_left_offset = 0;
  conf_win_right_offset = 0;
  conf_win_top_offset = 0;
  conf_win_bottom_offset = 0;
  bit_depth = 0;
}
