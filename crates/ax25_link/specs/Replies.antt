-- Replies and last frames as contracts see them.
use Rattle.ax25_link.specs.declared.reply.Reply.{Reply}
use Rattle.ax25_link.specs.declared.reply.Reply.TheVariants as reply
use Rattle.ax25_link.specs.declared.reply.Farewell.{Farewell}
use Rattle.ax25_link.specs.declared.reply.Farewell.TheVariants as farewell
use Rattle.ax25_link.specs.Ends as ends

abbrev pub reply_value : Reply → ends.Reply
reply_value (reply.Ready poll) = ends.ready poll
reply_value (reply.Reject poll) = ends.reject poll
reply_value (reply.Accept poll) = ends.accept poll
reply_value (reply.Refuse poll) = ends.refuse poll
reply_value (reply.FrameReject octets poll) = ends.refuse_frame octets poll
reply_value reply.Call = ends.call
reply_value reply.Disconnect = ends.disconnect
reply_value reply.Enquiry = ends.enquire
reply_value reply.Oldest = ends.oldest

abbrev pub farewell_value : Farewell → ends.Farewell
farewell_value farewell.Disconnect = ends.goodbye
farewell_value farewell.Refuse = ends.gone
