mod StampSums
