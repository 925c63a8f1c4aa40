mod AfterSeek
